-- `sparse::cholesky::row_at` meets its contract. Assumes nothing.
use Rattle.loops.proofs.Loop.{loops}
use Rattle.sparse.proofs.Fit.{fit_of}
use Rattle.sparse.proofs.Marks.{row_on, row_refused, row_unfit}
use Rattle.sparse.proofs.cholesky.row_at.Goals as goal

ruleset known = (row_refused, row_unfit, row_on, fit_of, loops)

pub returns-in_err-rest : goal.returns-in_err-rest
returns-in_err-rest c =
    record { pivots_value = search known; at_most_2 = search known }

pub returns-then-not-is_fit : goal.returns-then-not-is_fit
returns-then-not-is_fit c =
    record { pivots_value = row_unfit _ _ _ _ _ c.factor_row.ensures.values_value _ _ c.in_ok-rest.was c.is_fit.ensures (search known); at_most_2 = search known }

pub pivot_root-pivot-requires : goal.pivot_root-pivot-requires
pivot_root-pivot-requires c =
    fit_of _ c.is_fit.result c.is_fit.ensures (search known)

pub returns : goal.returns
returns c =
    record { pivots_value = row_on _ _ _ _ _ c.factor_row.ensures.values_value _ _ c.in_ok-rest.was c.is_fit.ensures _ (search known) c.pivot_root-pivot.ensures; at_most_2 = c.factor_row.ensures.at_most_2 }
