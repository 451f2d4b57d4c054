-- `position::multiplier::gain` meets its contract. Assumes nothing.
use borrow.Author.Rules.{rules}
use Rattle.position.proofs.Gains.{gain_is}
use Rattle.position.proofs.multiplier.gain.Goals as goal

ruleset known = (gain_is, rules)

pub returns : goal.returns
returns c =
    search known
