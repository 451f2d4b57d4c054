-- `block_factor::stretch::solve_block` meets its contract. Assumes nothing.
use Rattle.block_factor.proofs.Stretches.{rows_solved, first_long, first_like, first_few, first_alike}
use Rattle.loops.proofs.Loop.{loops}
use Rattle.block_factor.proofs.stretch.solve_block.Goals as goal

ruleset known = (rows_solved, first_long, first_like, first_few, first_alike, loops)

pub solve_rows-requires : goal.solve_rows-requires
solve_rows-requires c =
    search known

pub solve_rows-requires-in-2 : goal.solve_rows-requires-in-2
solve_rows-requires-in-2 c =
    search known

pub solve_rows-requires-in-3 : goal.solve_rows-requires-in-3
solve_rows-requires-in-3 c =
    search known

pub solve_rows-requires-in-4 : goal.solve_rows-requires-in-4
solve_rows-requires-in-4 c =
    search known

pub solve_rows-requires-in-5 : goal.solve_rows-requires-in-5
solve_rows-requires-in-5 c =
    search known

pub solve_rows-requires-in-6 : goal.solve_rows-requires-in-6
solve_rows-requires-in-6 c =
    search known

pub returns-in-1 : goal.returns-in-1
returns-in-1 c =
    search known

pub returns-in-2 : goal.returns-in-2
returns-in-2 c =
    search known

pub returns-in-3 : goal.returns-in-3
returns-in-3 c =
    search known

pub returns-in-4 : goal.returns-in-4
returns-in-4 c =
    search known

pub returns-in-5 : goal.returns-in-5
returns-in-5 c =
    search known

pub returns-in-6 : goal.returns-in-6
returns-in-6 c =
    search known

pub returns-in_default : goal.returns-in_default
returns-in_default c =
    search known
