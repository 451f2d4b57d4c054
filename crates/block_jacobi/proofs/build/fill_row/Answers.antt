-- `block_jacobi::build::fill_row` meets its contract: the columns before `column` are made. Assumes nothing.
use Rattle.std.proofs.lemmas.Result.{err_from_is_err_and}
use Rattle.loops.proofs.Loop.{at_none, at_more, at_stop, at_end}
use Rattle.block_factor.specs.Answers.{block_row_turn}
use Rattle.block_factor.proofs.Cells.{column_on, column_out_lem}
use Rattle.block_jacobi.proofs.build.fill_row.Goals as goal

pub loop-column-init : goal.loop-column-init
loop-column-init c =
    at_none

pub returns-in_err-x : goal.returns-in_err-x
unfolding block_row_turn
returns-in_err-x c =
    let p = err_from_is_err_and c.from_residual.result c.from_residual.ensures.1 in
    rw (p.1, p.2) (at_stop c.loop-column.invariant c.loop-column-test.true (column_out_lem _ _ _ _ _ c.cell_at.result c.cell_at.ensures _ c.in_err-x.was))

pub loop-column-preserved : goal.loop-column-preserved
loop-column-preserved c =
    at_more c.loop-column.invariant c.loop-column-test.true (column_on _ _ _ _ _ c.cell_at.result c.cell_at.ensures _ c.in_ok-x.was)

pub returns : goal.returns
unfolding block_row_turn
returns c =
    at_end c.loop-column.invariant c.loop-column-test.false
