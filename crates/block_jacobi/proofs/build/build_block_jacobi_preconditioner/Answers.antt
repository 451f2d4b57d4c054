-- `block_jacobi::build::build_block_jacobi_preconditioner` meets its contract: the runs before `start` have their blocks. Assumes nothing.
use native.Mathlib.Omega.{arith}
use Rattle.std.proofs.lemmas.Result.{err_from_is_err_and}
use Rattle.loops.proofs.Loop.{loops}
use Rattle.block_jacobi.proofs.RunsOf.{runs_none, runs_more, run_within, run_some}
use Rattle.block_jacobi.proofs.RowPairs.{run_eleven, run_out, run_on, blocks_pass, blocks_end, blocks_stop}
use Rattle.block_jacobi.proofs.build.build_block_jacobi_preconditioner.Goals as goal

ruleset known = (runs_none, run_within, run_some, loops)

pub loop-start-init : goal.loop-start-init
loop-start-init c =
    search known

pub fill_block-requires : goal.fill_block-requires
fill_block-requires c =
    record { rows_in_bounds = (search known, search known, search known); linked = search known; len_bound = (search known, search known) }

pub loop-start-smaller : goal.loop-start-smaller
loop-start-smaller c =
    search known

pub loop-start-preserved : goal.loop-start-preserved
loop-start-preserved c =
    runs_more c.loop-start.invariant (blocks_pass _ _) (omega arith) c.run_length-len.ensures.is (run_on _ _ _ _ _ (c.loop-start.invariant.first (omega arith)) c.run_length-len.ensures.is (omega arith) c.in_ok-fill_block.ensures c.put_block.ensures)

pub returns-then-len-gt6 : goal.returns-then-len-gt6
returns-then-len-gt6 c =
    blocks_stop _ _ _ _ _ c.loop-start.invariant (omega arith) (run_eleven _ _ _ _ _ (c.loop-start.invariant.first (omega arith)) c.run_length-len.ensures.is (omega arith))

pub returns-in_err-fill_block : goal.returns-in_err-fill_block
returns-in_err-fill_block c =
    let p = err_from_is_err_and c.from_residual.result c.from_residual.ensures.1 in
    rw (p.1, p.2) (blocks_stop _ _ _ _ _ c.loop-start.invariant (omega arith) (run_out _ _ _ _ _ (c.loop-start.invariant.first (omega arith)) c.run_length-len.ensures.is (omega arith) c.in_err-fill_block.ensures))

pub returns : goal.returns
returns c =
    blocks_end _ _ _ _ _ c.loop-start.invariant (omega arith)
