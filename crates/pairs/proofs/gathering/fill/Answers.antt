-- `pairs::gathering::fill` meets its contract: the two parts of the pattern are its starts and its columns. Assumes nothing.
use mathlib.Core.Path.{sym}
use native.Mathlib.Omega.{arith}
use borrow.Author.Rules.{rules}
use Rattle.compact_table.proofs.Linked.{linked_same}
use Rattle.pairs.proofs.Parted.{columns_lent_long, front_count, kept_lent}
use Rattle.pairs.proofs.Places.{fine_lent, valued_lent}
use Rattle.pairs.proofs.gathering.fill.Goals as goal

pub slice_bounds-fill_values-end : goal.slice_bounds-fill_values-end
slice_bounds-fill_values-end c =
    front_count _ _ (omega arith)

pub fill_values-requires : goal.fill_values-requires
fill_values-requires c =
    record { rows_in_bounds = (omega arith, omega arith, omega arith); linked = search (linked_same, rules); starts_len = (sym (front_count _ _ (omega arith)), search (columns_lent_long, rules)); kept = search (kept_lent, rules) }

pub returns : goal.returns
returns c =
    record { valued = search (valued_lent, rules); value = search (fine_lent, rules) }
