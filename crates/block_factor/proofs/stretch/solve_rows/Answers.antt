-- `block_factor::stretch::solve_rows` meets its contract. Assumes nothing.
use Rattle.block_factor.proofs.Stretches.{block_solved}
use Rattle.loops.proofs.Loop.{loops}
use Rattle.block_factor.proofs.stretch.solve_rows.Goals as goal

ruleset known = (block_solved, loops)

pub returns : goal.returns
returns c =
    search known
