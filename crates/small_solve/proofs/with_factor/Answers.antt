-- `small_solve::with_factor` meets its contract. Assumes nothing.
use mathlib.Core.Path.{sym, ◌∙◌}
use native.Mathlib.Omega.{arith}
use lib.Seq.{length-take-le}
use Rattle.own_memory.proofs.Rooms.{pairs_small, pattern_within, order_within, values_within, mode_1, factor_room}
use Rattle.small_solve.proofs.with_factor.Goals as goal

pub slice_bounds-pattern-end : goal.slice_bounds-pattern-end
slice_bounds-pattern-end c =
    omega (arith, c.pattern_room-pattern_words.ensures, pattern_within _ 128 8128 c.requires.rows_bound.0 (pairs_small _ c.requires.rows_bound.0))

pub slice_bounds-with_vectors-end : goal.slice_bounds-with_vectors-end
slice_bounds-with_vectors-end c =
    sym (length-take-le _ _ (omega (arith, c.pattern_room-pattern_words.ensures, pattern_within _ 128 8128 c.requires.rows_bound.0 (pairs_small _ c.requires.rows_bound.0))))

pub slice_bounds-order-end : goal.slice_bounds-order-end
slice_bounds-order-end c =
    omega (arith, c.order_room-order_words.ensures, order_within _ 128 8128 c.requires.rows_bound.0 (pairs_small _ c.requires.rows_bound.0))

pub slice_bounds-with_vectors-end-2 : goal.slice_bounds-with_vectors-end-2
slice_bounds-with_vectors-end-2 c =
    sym (length-take-le _ _ (omega (arith, c.order_room-order_words.ensures, order_within _ 128 8128 c.requires.rows_bound.0 (pairs_small _ c.requires.rows_bound.0))))

pub slice_bounds-values-end : goal.slice_bounds-values-end
slice_bounds-values-end c =
    omega (arith, c.values_room-value_numbers.ensures, values_within _ 128 8128 c.requires.rows_bound.0 (pairs_small _ c.requires.rows_bound.0))

pub slice_bounds-with_vectors-end-3 : goal.slice_bounds-with_vectors-end-3
slice_bounds-with_vectors-end-3 c =
    sym (length-take-le _ _ (omega (arith, c.values_room-value_numbers.ensures, values_within _ 128 8128 c.requires.rows_bound.0 (pairs_small _ c.requires.rows_bound.0))))

pub with_vectors-requires : goal.with_vectors-requires
with_vectors-requires c =
    record { rule_numbers_value = c.requires.rule_numbers_value; rows_bound = c.requires.rows_bound; factor_room = factor_room (mode_1 _ c.requires.mode_value) (length-take-le _ _ (omega (arith, c.pattern_room-pattern_words.ensures, pattern_within _ 128 8128 c.requires.rows_bound.0 (pairs_small _ c.requires.rows_bound.0))) ∙ c.pattern_room-pattern_words.ensures) (length-take-le _ _ (omega (arith, c.order_room-order_words.ensures, order_within _ 128 8128 c.requires.rows_bound.0 (pairs_small _ c.requires.rows_bound.0))) ∙ c.order_room-order_words.ensures) (length-take-le _ _ (omega (arith, c.values_room-value_numbers.ensures, values_within _ 128 8128 c.requires.rows_bound.0 (pairs_small _ c.requires.rows_bound.0))) ∙ c.values_room-value_numbers.ensures) }

pub returns : goal.returns
returns c =
    c.with_vectors.ensures
