-- The margins of two checks whose rows have the same dimensions and reaches: the same rows beside the same numbers. Assumes nothing.
use Prim.Native.Nat.{ℕ, ◌<◌}
use mathlib.Core.Path.{◌≡◌, subst}
use mathlib.Core.List.{List}
use native.Mathlib.Omega.{arith}
use lib.Ieee.{Float}
use Rattle.check_range.specs.Closing.{Closing}
use Rattle.check_measure.specs.Verdict.{reach}
use Rattle.margins_list.specs.Margins.{AllSized, Margins, MarginsOf, dimension_word}
use Rattle.margins_list.specs.Ranked.{margin_rows, margin_numbers}
use Rattle.margins_list.proofs.Told.{margins_same}
use Rattle.margins_list.proofs.Ranked.{margins_are}
use Rattle.margins_list.proofs.Ranks.{margins_hold}

module _ (c d : Closing) (n : d.table.rows ≡ c.table.rows) (dimensions : (i : ℕ) → i < c.table.rows → dimension_word d.table i ≡ dimension_word c.table i) (reaches : (i : ℕ) → i < c.table.rows → reach d i ≡ reach c i) where
  -- one list is that of both
  margins_moved : {rows : List ℕ} {numbers : List Float} → MarginsOf d rows numbers → MarginsOf c rows numbers
  margins_moved {rows} {numbers} m = margins_same dimensions reaches (subst (λ k. Margins (dimension_word d.table) (reach d) k rows numbers) n m)

  sized_moved : AllSized (reach c) c.table.rows → AllSized (reach d) d.table.rows
  sized_moved a = record { sized = λ i h. let k : i < c.table.rows = omega (arith, n) in rw (reaches i k) (a.sized i k) }

  pub list_same : AllSized (reach c) c.table.rows → (margin_rows d ≡ margin_rows c) × (margin_numbers d ≡ margin_numbers c)
  list_same a = margins_are c (margins_moved (margins_hold d (sized_moved a))) a
