-- `position::centre::moved_at` meets its contract. Assumes nothing.
use Rattle.position.proofs.Moved.{moved_still, moved_next}
use Rattle.position.proofs.centre.moved_at.Goals as goal

pub returns-then-is_still : goal.returns-then-is_still
returns-then-is_still c =
    moved_still _ _ _ _ _ _ _ c.paired_at-impulse.ensures c.vec_at-center.ensures c.is_still.ensures c.if-is_still.true

pub returns : goal.returns
returns c =
    moved_next _ _ _ _ _ _ _ c.paired_at-impulse.ensures c.vec_at-center.ensures c.is_still.ensures _ _ c.if-is_still.false c.mass_at.ensures c.next_center.ensures
