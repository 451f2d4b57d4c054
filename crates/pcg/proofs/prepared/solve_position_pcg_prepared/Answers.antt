-- `pcg::prepared::solve_position_pcg_prepared` meets its contract. Assumes nothing.
use Rattle.loops.proofs.Loop.{loops}
use Rattle.pcg.proofs.prepared.solve_position_pcg_prepared.Goals as goal

pub slice_bounds-solve_prepared-end : goal.slice_bounds-solve_prepared-end
slice_bounds-solve_prepared-end c =
    search loops

pub solve_prepared-requires : goal.solve_prepared-requires
solve_prepared-requires c =
    search loops

pub returns : goal.returns
returns c =
    c.solve_prepared.ensures
