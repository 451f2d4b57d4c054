-- `kapitsa_report_c::refusing::kind_for` meets its contract. Assumes nothing.
use Rattle.kapitsa_report_c.proofs.Told.{kind_velocity, kind_position}
use Rattle.kapitsa_report_c.proofs.refusing.kind_for.Goals as goal

pub returns-then-velocities-eq1 : goal.returns-then-velocities-eq1
returns-then-velocities-eq1 c =
    kind_velocity c.if-velocities-eq1.true

pub returns : goal.returns
returns c =
    kind_position c.if-velocities-eq1.false
