-- The largest number of each dimension: the loops that find it, and that it depends on the rows below the count alone. Assumes nothing.
use Prim.Native.Nat.{ℕ, zero, suc, ◌+◌, ◌<◌, ◌≤◌}
use mathlib.Core.Path.{◌≡◌, refl, ap, ◌∙◌}
use native.Mathlib.Numerals.{add-one}
use native.Mathlib.Omega.{arith}
use lib.Ieee.{Float}
use Rattle.kapitsa_joint.specs.Maxima.{no_maxima, raised_by, maxima_by}
use Rattle.kapitsa_joint.specs.declared.tolerance.RowDimension.{RowDimension}
use Rattle.kapitsa_joint.specs.declared.maxima.Maxima.{Maxima}

-- ---- a loop over n rows, of which the first i are looked at
pub record Largest (dimension : ℕ → RowDimension) (size : ℕ → Float) (n i : ℕ) (m : Maxima) : Type 0 where
  pub within : i ≤ n
  pub made : m ≡ maxima_by dimension size i

module _ {dimension : ℕ → RowDimension} {size : ℕ → Float} {n : ℕ} where
  pub largest_none : Largest dimension size n 0 no_maxima
  unfolding maxima_by
  largest_none = record { within = omega arith; made = refl }

  pub largest_more : {i : ℕ} {m after : Maxima} {d : RowDimension} {x : Float} → Largest dimension size n i m → i < n → d ≡ dimension i → x ≡ size i → after ≡ raised_by d x m → Largest dimension size n (i + 1) after
  unfolding maxima_by
  largest_more {i} {m} {after} {d} {x} h l ed ex e = record {
    within = omega arith;
    made = rw add-one (e ∙ ap (λ (k : RowDimension). raised_by k x m) ed ∙ ap (λ (y : Float). raised_by (dimension i) y m) ex ∙ ap (raised_by (dimension i) (size i)) h.made);
  }

  pub largest_end : {i : ℕ} {m : Maxima} → Largest dimension size n i m → n ≤ i → m ≡ maxima_by dimension size n
  largest_end {i} h l = let e : i ≡ n = omega arith in rw e at h.made

-- ---- rows that agree have the same maxima
pub maxima_same : (d e : ℕ → RowDimension) (x y : ℕ → Float) (n : ℕ) → ((i : ℕ) → i < n → d i ≡ e i) → ((i : ℕ) → i < n → x i ≡ y i) → maxima_by d x n ≡ maxima_by e y n
unfolding maxima_by
maxima_same d e x y zero p q = refl
maxima_same d e x y (suc n) p q = rw (maxima_same d e x y n (λ i h. p i (omega arith)) (λ i h. q i (omega arith)), p n (omega arith), q n (omega arith))
