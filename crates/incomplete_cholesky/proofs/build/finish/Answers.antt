-- `incomplete_cholesky::build::finish` meets its contract. Assumes nothing.
use native.Mathlib.Omega.{arith}
use Rattle.loops.proofs.Loop.{loops}
use Rattle.pairs.proofs.Parted.{columns_lent_long, front_count, kept_lent, starts_lent_long}
use Rattle.incomplete_cholesky.proofs.Builds.{finish_done, finish_refused, marks_fit, order_fit, starts_fit}
use Rattle.incomplete_cholesky.proofs.build.finish.Goals as goal

ruleset lent = (kept_lent, columns_lent_long, starts_fit, marks_fit, loops)

pub wide-n-requires : goal.wide-n-requires
wide-n-requires c =
    search loops

pub overflow_add-ends : goal.overflow_add-ends
overflow_add-ends c =
    search loops

pub slice_bounds-starts-end : goal.slice_bounds-starts-end
slice_bounds-starts-end c =
    front_count _ _ (omega arith)

pub offset_bounds-pattern-ends : goal.offset_bounds-pattern-ends
offset_bounds-pattern-ends c =
    search loops

pub slice_bounds-columns-count : goal.slice_bounds-columns-count
slice_bounds-columns-count c =
    search loops

pub slice_bounds-columns-start : goal.slice_bounds-columns-start
slice_bounds-columns-start c =
    search loops

pub slice_bounds-columns-end : goal.slice_bounds-columns-end
slice_bounds-columns-end c =
    search loops

pub slice_bounds-factor_afresh-end : goal.slice_bounds-factor_afresh-end
slice_bounds-factor_afresh-end c =
    search loops

pub slice_bounds-factor_afresh-end-2 : goal.slice_bounds-factor_afresh-end-2
slice_bounds-factor_afresh-end-2 c =
    front_count _ _ (omega arith)

pub factor_afresh-requires : goal.factor_afresh-requires
factor_afresh-requires c =
    record { kept = search lent; values_len = (search lent, search lent, search lent) }

pub returns-in_err-factor_afresh : goal.returns-in_err-factor_afresh
returns-in_err-factor_afresh c =
    let made = c.factor_afresh.ensures in
    finish_refused _ _ c.wide-n.ensures _ _ _ _ _ _ made.value made.number _ _ _ c.requires.diagonal_len.2 (search loops) c.in_err-factor_afresh.was _ (search loops)

pub index-requires : goal.index-requires
index-requires c =
    record { kept = search (kept_lent, loops); starts_len = search (starts_lent_long, loops); order_len = search (order_fit, loops) }

pub returns : goal.returns
returns c =
    finish_done _ _ c.wide-n.ensures _ _ _ _ _ _ c.factor_afresh.ensures.value _ _ _ c.in_ok-factor_afresh.was c.index.ensures.indexed
