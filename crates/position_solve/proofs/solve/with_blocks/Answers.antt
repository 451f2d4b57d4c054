-- `position_solve::solve::with_blocks` meets its contract. Assumes nothing.
use mathlib.Core.Path.{sym, ◌∙◌}
use native.Mathlib.Omega.{arith}
use lib.Seq.{length-take-le}
use Rattle.own_memory.proofs.Rooms.{owners_within, blocks_within, mode_2, factor_room, no_order}
use Rattle.position_solve.proofs.solve.with_blocks.Goals as goal

pub slice_bounds-pattern-end : goal.slice_bounds-pattern-end
slice_bounds-pattern-end c =
    omega (arith, c.pattern_room-pattern_words.ensures, owners_within _ 512 c.requires.rows_bound.0)

pub slice_bounds-with_vectors-end : goal.slice_bounds-with_vectors-end
slice_bounds-with_vectors-end c =
    sym (length-take-le _ _ (omega (arith, c.pattern_room-pattern_words.ensures, owners_within _ 512 c.requires.rows_bound.0)))

pub slice_bounds-values-end : goal.slice_bounds-values-end
slice_bounds-values-end c =
    omega (arith, c.values_room-value_numbers.ensures, blocks_within _ 512 c.requires.rows_bound.0)

pub slice_bounds-with_vectors-end-3 : goal.slice_bounds-with_vectors-end-3
slice_bounds-with_vectors-end-3 c =
    sym (length-take-le _ _ (omega (arith, c.values_room-value_numbers.ensures, blocks_within _ 512 c.requires.rows_bound.0)))

pub with_vectors-requires : goal.with_vectors-requires
with_vectors-requires c =
    record { given_value = c.requires.given_value; rows_bound = c.requires.rows_bound; factor_room = factor_room (mode_2 _ c.requires.mode_value) (length-take-le _ _ (omega (arith, c.pattern_room-pattern_words.ensures, owners_within _ 512 c.requires.rows_bound.0)) ∙ c.pattern_room-pattern_words.ensures) (no_order _) (length-take-le _ _ (omega (arith, c.values_room-value_numbers.ensures, blocks_within _ 512 c.requires.rows_bound.0)) ∙ c.values_room-value_numbers.ensures) }

pub returns : goal.returns
returns c =
    c.with_vectors.ensures
