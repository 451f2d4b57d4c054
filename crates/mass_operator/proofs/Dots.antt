-- A loop that sums a dot product, and what its end tells: where it is finite, so was every partial sum, and so is every number of the second vector.
-- So one test at the end refuses exactly what checked_dot_product of pcg.rs refuses on the way; and where a number of the product is not finite, direction · product is not. Assumes nothing.
use Prim.Native.Nat.{ℕ, zero, suc, ◌+◌, ◌-◌, ◌<◌, ◌≤◌}
use mathlib.Core.Path.{◌≡◌, refl, sym, ap, ◌∙◌, subst}
use mathlib.Core.Bool.{Bool, true, false}
use mathlib.Core.List.{List}
use native.Mathlib.Numerals.{add-one}
use native.Mathlib.Omega.{arith}
use lib.Dec.{T}
use lib.ListN.{length, get_or}
use lib.Ieee.{Float, nan, binary64, add, mul}
use lib.Ieee.Scale.{finite}
use Rattle.rounding.proofs.Rounded.{add_finite, mul_finite}
use Rattle.loops.specs.Cleared.{plus_zero}
use Rattle.loops.specs.Tabulate.{tabulate}
use Rattle.loops.proofs.Every.{every_false}
use Rattle.loops.proofs.Tabulate.{get_d_tabulate}
use Rattle.mass_operator.specs.Applied.{all_finite_of}
use Rattle.mass_operator.specs.Dot.{dot_to, dot_product_of}

-- ---- the loop's invariant: the first i products are summed
pub record Dots (x y : List Float) (i : ℕ) (sum : Float) : Type 0 where
  pub within : i ≤ length x
  pub led : sum ≡ dot_to x y i

module _ {x y : List Float} where
  pub dots_none : Dots x y 0 plus_zero
  unfolding dot_to
  dots_none = record { within = omega arith; led = refl }

  pub dots_more : {i : ℕ} {sum : Float} → Dots x y i sum → i < length x → Dots x y (i + 1) (add binary64 sum (mul binary64 (get_or x i nan) (get_or y i nan)))
  unfolding dot_to
  dots_more {i} d l = record { within = omega arith; led = rw (add-one, d.led) }

  pub dots_end : {i : ℕ} {sum : Float} → Dots x y i sum → length x ≤ i → sum ≡ dot_product_of x y
  unfolding dot_product_of
  dots_end {i} d l = let e : i ≡ length x = omega (arith, d.within) in d.led ∙ ap (dot_to x y) e

-- where the second vector's number i is made in the same turn
pub dots_made : {x : List Float} {i : ℕ} {sum : Float} (g : ℕ → Float) (n : ℕ) {v : Float} → Dots x (tabulate g n) i sum → i < length x → i < n → v ≡ g i → Dots x (tabulate g n) (i + 1) (add binary64 sum (mul binary64 (get_or x i nan) v))
dots_made {i = i} g n d l m e = rw (e, ← get_d_tabulate g n i nan m) (dots_more d l)

pub dots_made_end : {x y : List Float} {i : ℕ} {sum : Float} (g : ℕ → Float) (n : ℕ) → Dots x (tabulate g n) i sum → length x ≤ i → y ≡ tabulate g n → sum ≡ dot_product_of x y
dots_made_end {x} g n d l e = dots_end d l ∙ ap (dot_product_of x) (sym e)

-- ---- what went not finite stays so
module _ (x y : List Float) where
  back : (n d k : ℕ) → k + d ≡ n → T (finite (dot_to x y n)) → T (finite (dot_to x y k))
  unfolding dot_to
  back n zero k e t = let q : n ≡ k = omega arith in rw q at t
  back n (suc d) k e t = (add_finite binary64 (dot_to x y k) (mul binary64 (get_or x k nan) (get_or y k nan)) (back n d (suc k) (omega arith) t)).0

  pub sums_finite : (n k : ℕ) → k ≤ n → T (finite (dot_to x y n)) → T (finite (dot_to x y k))
  sums_finite n k h t = back n (n - k) k (omega arith) t

  -- of the whole
  pub dot_sums_finite : T (finite (dot_product_of x y)) → (k : ℕ) → k ≤ length x → T (finite (dot_to x y k))
  unfolding dot_product_of
  dot_sums_finite t k h = sums_finite (length x) k h t

  pub dot_numbers_finite : T (finite (dot_product_of x y)) → (k : ℕ) → k < length x → T (finite (get_or x k nan)) × T (finite (get_or y k nan))
  dot_numbers_finite t k h =
      let s : T (finite (add binary64 (dot_to x y k) (mul binary64 (get_or x k nan) (get_or y k nan)))) = unfold dot_to in dot_sums_finite t (suc k) (omega arith) in
      mul_finite binary64 (get_or x k nan) (get_or y k nan) (add_finite binary64 (dot_to x y k) (mul binary64 (get_or x k nan) (get_or y k nan)) s).1

  pub dot_not_finite : length y ≡ length x → all_finite_of y ≡ false → finite (dot_product_of x y) ≡ false
  unfolding all_finite_of
  dot_not_finite e h = let (k, l, q) = every_false (λ i. finite (get_or y i nan)) (length y) h in by k (omega arith) q (finite (dot_product_of x y)) refl
    where
      by : (k : ℕ) → k < length x → finite (get_or y k nan) ≡ false → (b : Bool) → finite (dot_product_of x y) ≡ b → finite (dot_product_of x y) ≡ false
      by k l q true p = absurd (subst T q (dot_numbers_finite (subst T (sym p) tt) k l).1)
      by k l q false p = p
