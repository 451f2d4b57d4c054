-- `position_steps::ready::opens_by_kind` meets its contract. Assumes nothing.
use Rattle.position_steps.proofs.ready.opens_by_kind.Goals as goal

pub returns-in-Position : goal.returns-in-Position
returns-in-Position c =
    rw c.in-Position.is c.row_opens.ensures

pub returns-in-Velocity : goal.returns-in-Velocity
returns-in-Velocity c =
    rw c.in-Velocity.is c.velocity_row_opens.ensures
