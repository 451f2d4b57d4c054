-- `check_alone::memory::checked_within` meets its contract. Assumes nothing.
use borrow.Author.Rules.{rules}
use Rattle.check_alone.proofs.Alone.{alone_3}
use Rattle.check_alone.proofs.memory.checked_within.Goals as goal

pub returns-then-not-given_fits : goal.returns-then-not-given_fits
returns-then-not-given_fits g c = alone_3 _ _ _ c.given_fits.ensures (search rules)
