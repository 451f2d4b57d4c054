-- `block_jacobi::build::fill_block` meets its contract: the rows before `row` are made. Assumes nothing.
use Rattle.std.proofs.lemmas.Result.{err_from_is_err_and}
use Rattle.loops.proofs.Loop.{at_none, at_more, at_stop, at_end}
use Rattle.block_factor.specs.Answers.{rows_run}
use Rattle.block_jacobi.proofs.build.fill_block.Goals as goal

pub loop-row-init : goal.loop-row-init
loop-row-init c =
    at_none

pub returns-in_err-fill_row : goal.returns-in_err-fill_row
unfolding rows_run
returns-in_err-fill_row c =
    let p = err_from_is_err_and c.from_residual.result c.from_residual.ensures.1 in
    rw (p.1, p.2) (at_stop c.loop-row.invariant c.loop-row-test.true c.in_err-fill_row.ensures)

pub loop-row-preserved : goal.loop-row-preserved
loop-row-preserved c =
    at_more c.loop-row.invariant c.loop-row-test.true c.in_ok-fill_row.ensures

pub returns : goal.returns
unfolding rows_run
returns c =
    at_end c.loop-row.invariant c.loop-row-test.false
