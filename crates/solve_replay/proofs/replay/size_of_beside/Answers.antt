-- `solve_replay::replay::size_of_beside` meets its contract. Assumes nothing.
use Rattle.solve_replay.proofs.replay.size_of_beside.Goals as goal

pub returns-in-Position : goal.returns-in-Position
returns-in-Position c =
    rw c.in-Position.is

pub returns-in-Velocity : goal.returns-in-Velocity
returns-in-Velocity c =
    rw c.in-Velocity.is
