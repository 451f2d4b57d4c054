-- `sparse::cholesky::factor_row` meets its contract. Assumes nothing.
use Rattle.std.specs.Prelude.{◌≡◌, Err}
use Rattle.sparse.proofs.Hop.{hop_more, hop_stop, hops}
use Rattle.sparse.proofs.Marks.{column_skip, less_skip, reduced_end, reduced_out_lem, row_marked, row_most, row_most_out, squares_more}
use Rattle.sparse.proofs.Marks.{turn_on, turn_out}
use Rattle.sparse.specs.Cholesky.{factors_run}
use Rattle.sparse.proofs.cholesky.factor_row.Goals as goal

ruleset known = (column_skip, turn_on, turn_out, row_marked, row_most, row_most_out, less_skip, reduced_out_lem, reduced_end, hops)

pub loop-p-init : goal.loop-p-init
unfolding factors_run
loop-p-init c =
    (search known, search known, search known)

pub returns-in_err-factor_at : goal.returns-in_err-factor_at
unfolding factors_run
returns-in_err-factor_at c =
    let e : c.from_residual.result ≡ Err c.in_err-factor_at.field-0.0 = search known in
    record { values_value = rw e (reduced_out_lem _ _ _ _ (hop_stop c.loop-p.invariant.1 (search known) (turn_out _ _ c.factor_at.ensures.values_value c.in_err-factor_at.was))); at_most_2 = search known }

pub loop-p-preserved : goal.loop-p-preserved
unfolding factors_run
loop-p-preserved c =
    let row = c.row-row.ensures in
    let inv = c.loop-p.invariant in
    let called = turn_on _ _ c.factor_at.ensures.values_value c.in_ok-factor_at.was in
    let squared = squares_more row _ _ _ _ _ _ inv.2 (search known) (search known) c.factor_at.ensures.values_after c.number-factor.ensures in
    (search known, hop_more inv.1 (search known) called (column_skip row _ _), squared)

pub returns : goal.returns
unfolding factors_run
returns c =
    record { values_value = search known; at_most_2 = search known }
