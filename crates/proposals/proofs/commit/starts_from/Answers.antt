-- `proposals::commit::starts_from` meets its contract. Assumes nothing.
use borrow.Author.Tests.{ne_eqb, eq-eqb}
use Rattle.proposals.proofs.commit.starts_from.Goals as goal

pub returns-then-rows-proposed : goal.returns-then-rows-proposed
returns-then-rows-proposed c =
    rw (ne_eqb _ _ c.if-rows-proposed.true)

pub returns : goal.returns
returns c =
    rw (eq-eqb _ _ c.if-rows-proposed.false) c.same_multipliers.ensures
