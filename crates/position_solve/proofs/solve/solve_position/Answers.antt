-- `position_solve::solve::solve_position` meets its contract. Assumes nothing.
use Rattle.position_solve.proofs.solve.solve_position.Goals as goal

pub returns : goal.returns
returns c =
    c.solve_table.ensures
