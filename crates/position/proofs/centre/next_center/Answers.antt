-- `position::centre::next_center` meets its contract. Assumes nothing.
use Rattle.position.proofs.Moved.{next_is}
use Rattle.position.proofs.centre.next_center.Goals as goal

pub returns : goal.returns
returns c =
    next_is _ _ _ _ _ c.scale.ensures c.add.ensures
