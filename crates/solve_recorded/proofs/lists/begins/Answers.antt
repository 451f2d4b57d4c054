-- `solve_recorded::lists::begins` meets its contract. Assumes nothing.
use Rattle.std.proofs.Common.{arith}
use Rattle.solve_recorded.proofs.Counting.{begins_past, begins_name}
use Rattle.solve_recorded.proofs.lists.begins.Goals as goal

pub returns-then-list-at : goal.returns-then-list-at
returns-then-list-at c =
    begins_past _ _ (omega (arith, c.if-list-at.true))

pub word-requires : goal.word-requires
word-requires c =
    omega (arith, c.if-list-at.false, c.requires)

pub returns : goal.returns
returns c =
    begins_name _ _ _ (omega (arith, c.if-list-at.false)) c.word.ensures
