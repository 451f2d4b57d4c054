-- The rows below i have their value and these are summed: no row, one more, and all. Assumes nothing.
use Prim.Native.Nat.{ℕ, ◌+◌, ◌<◌, ◌≤◌}
use mathlib.Core.Path.{◌≡◌, sym, ap, ◌∙◌, subst}
use mathlib.Core.List.{List}
use native.Mathlib.Omega.{arith}
use borrow.Author.Count.{below_none}
use lib.ListN.{length, get_or, set}
use lib.Ieee.{Float, nan, binary64, add, mul}
use Rattle.loops.specs.Cleared.{plus_zero}
use Rattle.loops.specs.Tabulate.{tabulate}
use Rattle.loops.proofs.Fill.{Fills, fills_put}
use Rattle.loops.proofs.Tabulate.{filled_tabulate}
use Rattle.mass_operator.specs.Dot.{dot_product_of}
use Rattle.mass_operator.specs.BodyPair.{Valued}
use Rattle.mass_operator.proofs.Dots.{Dots, dots_none, dots_made, dots_made_end}

module _ {g : ℕ → Float} {vector : List Float} where
  filling : {i : ℕ} {l : List Float} {sum : Float} → Valued g vector i l sum → Fills nan g (length vector) i l
  filling h = record { within = h.within; long = h.long; agree = h.at }

  summing : {i : ℕ} {l : List Float} {sum : Float} → Valued g vector i l sum → Dots vector (tabulate g (length vector)) i sum
  summing h = record { within = h.within; led = h.summed }

  pub valued_none : (product : List Float) → length product ≡ length vector → Valued g vector 0 product plus_zero
  valued_none product e = record { within = omega arith; long = e; at = below_none _; summed = dots_none.led }

  pub valued_more : {i : ℕ} {l l' : List Float} {sum sum' v : Float} → Valued g vector i l sum → i < length vector → v ≡ g i → l' ≡ set l i v → sum' ≡ add binary64 sum (mul binary64 (get_or vector i nan) v) → Valued g vector (i + 1) l' sum'
  valued_more h b e p q =
      let more = fills_put (filling h) b e p in
      record { within = more.within; long = more.long; at = more.agree; summed = q ∙ (dots_made g (length vector) (summing h) b b e).led }

  pub valued_end : {i : ℕ} {l : List Float} {sum : Float} (n : ℕ) → n ≡ length vector → Valued g vector i l sum → n ≤ i → Valued g vector n l sum
  valued_end {i} {l} {sum} n e h b = let k : i ≡ n = omega (arith, h.within) in subst (λ (m : ℕ). Valued g vector m l sum) k h

  pub valued_all : {i : ℕ} {l : List Float} {sum : Float} (n : ℕ) → n ≡ length vector → Valued g vector i l sum → n ≤ i → (l ≡ tabulate g n) × (sum ≡ dot_product_of vector l)
  valued_all n e h b =
      let made = filled_tabulate (filling h) (omega arith) in
      (made ∙ ap (tabulate g) (sym e), dots_made_end g (length vector) (summing h) (omega arith) made)
