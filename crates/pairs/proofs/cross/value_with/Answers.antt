-- `pairs::cross::value_with` meets its contract: either order of the two shares gives the value. Assumes nothing.
use Rattle.pairs.proofs.Crosses.{a_first, b_first}
use Rattle.pairs.proofs.cross.value_with.Goals as goal

pub returns-then-lower : goal.returns-then-lower
returns-then-lower c =
    rw (← c.compact_at-lower.ensures) (a_first _ _ c.met_at-a.result c.met_at-b.result _ c.met_at-a.ensures c.met_at-b.ensures c.sum.ensures)

pub returns-else-lower : goal.returns-else-lower
returns-else-lower c =
    rw (← c.compact_at-lower.ensures) (b_first _ _ c.met_at-a.result c.met_at-b.result _ c.met_at-a.ensures c.met_at-b.ensures c.sum-else-lower.ensures)
