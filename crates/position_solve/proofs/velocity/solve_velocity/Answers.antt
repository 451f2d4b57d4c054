-- `position_solve::velocity::solve_velocity` meets its contract. Assumes nothing.
use Rattle.position_solve.proofs.Moving.{moving_solved}
use Rattle.position_solve.proofs.velocity.solve_velocity.Goals as goal

pub returns : goal.returns
returns c =
    moving_solved _ c.no_centres-2-1.given c.solve_table.ensures
