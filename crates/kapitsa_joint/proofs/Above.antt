-- The largest finite numbers of each dimension are finite, and at least each row's. Assumes nothing.
use Prim.Native.Nat.{ℕ, zero, suc, ◌<◌}
use mathlib.Core.Path.{◌≡◌}
use mathlib.Core.Bool.{true}
use native.Mathlib.Omega.{arith}
use borrow.Author.Count.{below_more}
use lib.Ieee.{Float, binary64, le, of_bits}
use lib.Ieee.Bits.{of_bits-fits}
use Rattle.rounding.proofs.Larger.{Number, at_most_itself, at_most_on, larger_number, larger_left, larger_right}
use Rattle.kapitsa_joint.specs.Maxima.{no_maxima, raised_by, maxima_by, maximum_of}
use Rattle.kapitsa_joint.specs.declared.tolerance.RowDimension.{RowDimension}
use Rattle.kapitsa_joint.specs.declared.tolerance.RowDimension.TheVariants.{Linear, Angular}
use Rattle.kapitsa_joint.specs.declared.maxima.Maxima.{Maxima}

abbrev Numbers : Maxima → Type 0
Numbers m = (e : RowDimension) → Number binary64 (maximum_of e m)

none : Numbers no_maxima
unfolding maximum_of of_bits
none Linear = record { held = of_bits-fits binary64 0; is_finite = tt }
none Angular = record { held = of_bits-fits binary64 0; is_finite = tt }

-- ---- one more row
module _ (m : Maxima) (x : Float) (held : Numbers m) (p : Number binary64 x) where
  raised_numbers : (d : RowDimension) → Numbers (raised_by d x m)
  unfolding raised_by maximum_of
  raised_numbers Linear Linear = larger_number binary64 (held Linear) p
  raised_numbers Linear Angular = held Angular
  raised_numbers Angular Linear = held Linear
  raised_numbers Angular Angular = larger_number binary64 (held Angular) p

  raised_kept : (d e : RowDimension) → le (maximum_of e m) (maximum_of e (raised_by d x m)) ≡ true
  unfolding raised_by maximum_of
  raised_kept Linear Linear = larger_left binary64 (held Linear) p
  raised_kept Linear Angular = at_most_itself binary64 (held Angular)
  raised_kept Angular Linear = at_most_itself binary64 (held Linear)
  raised_kept Angular Angular = larger_left binary64 (held Angular) p

  raised_above : (d : RowDimension) → le x (maximum_of d (raised_by d x m)) ≡ true
  unfolding raised_by maximum_of
  raised_above Linear = larger_right binary64 (held Linear) p
  raised_above Angular = larger_right binary64 (held Angular) p

-- ---- all rows
pub record Bounds (dimension : ℕ → RowDimension) (size : ℕ → Float) (n : ℕ) : Type 0 where
  pub number : (e : RowDimension) → Number binary64 (maximum_of e (maxima_by dimension size n))
  pub above : (i : ℕ) → i < n → le (size i) (maximum_of (dimension i) (maxima_by dimension size n)) ≡ true

pub bounds_of : (dimension : ℕ → RowDimension) (size : ℕ → Float) (n : ℕ) → ((i : ℕ) → i < n → Number binary64 (size i)) → Bounds dimension size n
unfolding maxima_by
bounds_of dimension size zero p = record { number = none; above = λ i h. absurd (omega arith) }
bounds_of dimension size (suc n) p =
    let b = bounds_of dimension size n (λ i h. p i (omega arith)) in
    let m = maxima_by dimension size n in
    let last = p n (omega arith) in
    let d = dimension n in
    let held = raised_numbers m (size n) b.number last d in
    record {
      number = held;
      above = λ i h. below_more (λ i. le (size i) (maximum_of (dimension i) (raised_by d (size n) m)) ≡ true) n
          (λ i h. let e = dimension i in at_most_on binary64 (p i (omega arith)) (b.number e) (held e) (b.above i h) (raised_kept m (size n) b.number last d e))
          (raised_above m (size n) b.number last d) i (omega arith);
    }
