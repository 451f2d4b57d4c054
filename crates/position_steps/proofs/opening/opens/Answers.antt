-- `position_steps::opening::opens` meets its contract. Assumes nothing.
use Rattle.position_steps.proofs.Openings.{opens_empty, opens_none, opens_position, opens_velocity}
use Rattle.position_steps.proofs.opening.opens.Goals as goal

pub returns-then-rows-eq0 : goal.returns-then-rows-eq0
returns-then-rows-eq0 c =
    opens_empty _ _ _ c.if-rows-eq0.true

pub returns-then-limit-eq0 : goal.returns-then-limit-eq0
returns-then-limit-eq0 c =
    opens_none _ _ _ c.if-rows-eq0.false c.if-limit-eq0.true

pub returns-in-Position : goal.returns-in-Position
returns-in-Position c =
    opens_position _ _ _ _ _ _ _ c.if-rows-eq0.false c.if-limit-eq0.false c.wide.ensures c.in-Position.is c.rows_open.ensures

pub returns-in-Velocity : goal.returns-in-Velocity
returns-in-Velocity c =
    opens_velocity _ _ _ _ _ _ _ c.if-rows-eq0.false c.if-limit-eq0.false c.wide-in-Velocity.ensures c.in-Velocity.is c.velocity_rows_open.ensures
