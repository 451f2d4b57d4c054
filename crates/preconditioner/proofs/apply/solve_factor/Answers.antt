-- `preconditioner::apply::solve_factor` meets its contract. Assumes nothing.
use mathlib.Core.Path.{sym}
use lib.Seq.{length-take-le}
use Rattle.preconditioner.proofs.Applies.{ends_within, columns_are, index_lent, order_lent, solved_lent}
use Rattle.preconditioner.proofs.apply.solve_factor.Goals as goal

pub slice_bounds-solve-end : goal.slice_bounds-solve-end
slice_bounds-solve-end c =
    sym (length-take-le _ _ (ends_within _ _ _ c.requires.factor_ready))

pub slice_bounds-solve-start : goal.slice_bounds-solve-start
slice_bounds-solve-start c =
    ends_within _ _ _ c.requires.factor_ready

pub solve-requires : goal.solve-requires
solve-requires c =
    record {
      indexed = index_lent _ _ _ c.requires.factor_ready;
      order_len = order_lent _ _ _ c.requires.factor_ready;
      values_len = sym (columns_are _ _ _ c.requires.factor_ready);
      pivots_len = c.requires.pivots_len.0;
      residual_len = c.requires.pivots_len.1;
    }

pub returns : goal.returns
returns c =
    solved_lent _ _ _ _ _ _ c.solve.ensures.output_value
