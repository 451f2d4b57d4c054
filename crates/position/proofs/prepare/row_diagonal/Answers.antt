-- `position::prepare::row_diagonal` meets its contract. Assumes nothing.
use Rattle.position.proofs.Ways.{diagonal_is}
use Rattle.position.proofs.prepare.row_diagonal.Goals as goal

pub returns : goal.returns
returns c =
    diagonal_is _ _ _ _ _ _ _ _ c.mass_at-a.ensures c.wide.ensures c.mass_at-b.ensures c.wide-2.ensures c.cross_value.ensures c.cross_value-2.ensures
