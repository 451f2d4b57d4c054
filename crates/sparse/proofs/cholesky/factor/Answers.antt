-- `sparse::cholesky::factor` meets its contract. Assumes nothing.
use Rattle.loops.proofs.Loop.{loops}
use Rattle.sparse.proofs.Marks.{most_clear, rows_on, rows_out}
use Rattle.sparse.proofs.Left.{numbered_on, numbered_out, factor_left}
use Rattle.sparse.specs.Cholesky.{factor_run}
use Rattle.sparse.proofs.cholesky.factor.Goals as goal

ruleset known = (numbered_on, numbered_out, rows_on, rows_out, most_clear, loops)

pub loop-i-init : goal.loop-i-init
unfolding factor_run
loop-i-init c =
    search known

pub returns-in_err-row_at : goal.returns-in_err-row_at
unfolding factor_run
returns-in_err-row_at c =
    record { pivots_value = search known; pivots_value_2 = search known; factor_free = factor_left _ _ _ _ _ (search known) (search known) }

pub loop-i-preserved : goal.loop-i-preserved
unfolding factor_run
loop-i-preserved c =
    (search known, search known)

pub returns : goal.returns
unfolding factor_run
returns c =
    record { pivots_value = search known; pivots_value_2 = search known; factor_free = factor_left _ _ _ _ _ (search known) (search known) }
