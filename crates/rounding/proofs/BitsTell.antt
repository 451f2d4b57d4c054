-- What the bits of a double tell of it, as whole numbers: its size, whether it is zero, whether it is finite, whether it is at least 0. Assumes nothing.
use Prim.Native.Nat.{ℕ, ◌+◌, ◌%◌, ◌<◌, ◌≤◌, zero-le}
use mathlib.Core.Path.{◌≡◌, refl, sym, ap, ◌∙◌}
use mathlib.Core.Bool.{Bool, true, false, true≢false}
use native.Mathlib.Nat.{zero-add}
use native.Mathlib.Omega.{arith}
use lib.Dec.{T, eqb, leb, ltb}
use lib.IntN.{ℤ}
use lib.Ieee.{Float, nan, inf, fin, binary64, fits, eq, le, neg, is_nan, of_bits, to_bits}
use lib.Ieee.Bits.{to_bits-lt, of_bits-to_bits, of_bits-fits, nan_bits_is, nan_bits_above}
use lib.Ieee.Fits.{neg-fits}
use lib.Ieee.Scale.{finite}
use borrow.Author.Tests.{leb-true, leb-false, ltb-false, le-leb, eq-eqb, ne_eqb}
use Rattle.binary64.specs.Units.{units_of}
use Rattle.binary64.specs.Order.{absolute}
use Rattle.binary64.specs.SquareRoot.{unsigned}
use Rattle.rounding.specs.Value.{plus, less}
use Rattle.rounding.proofs.Absolute.{absolute_fits}
use Rattle.rounding.proofs.Compare.{eq_is, le_is}
use Rattle.rounding.proofs.BitsOrder.{bits_order, units_order}

-- ---- without the sign, the bits are those of the size
pub signed_bits : (m : ℕ) (e : ℤ) → to_bits binary64 (fin true m e) ≡ 9223372036854775808 + to_bits binary64 (fin false m e)
unfolding to_bits
signed_bits m e = omega arith

pub size_bits : (x : Float) → T (fits binary64 x) → to_bits binary64 x % 9223372036854775808 ≡ to_bits binary64 (absolute x)
unfolding absolute neg
size_bits nan t = unfold to_bits in refl
size_bits (inf true) t = unfold to_bits in refl
size_bits (inf false) t = unfold to_bits in refl
size_bits (fin true m e) t = omega (arith, signed_bits m e, to_bits-lt binary64 (fin true m e) t)
size_bits (fin false m e) t = omega (arith, signed_bits m e, to_bits-lt binary64 (fin true m e) (neg-fits binary64 (fin false m e) t))

-- ---- +0.0
abbrev zero : Float
zero = of_bits binary64 0

zero_parts : (plus binary64 zero ≡ 0) × (less binary64 zero ≡ 0)
unfolding of_bits plus less units_of
zero_parts = (refl, refl)

zero_unit : units_of binary64 zero ≡ 0
unfolding of_bits units_of
zero_unit = refl

zero_bits : to_bits binary64 zero ≡ 0
unfolding of_bits to_bits
zero_bits = refl

zero_unsigned : T (unsigned zero)
unfolding of_bits unsigned
zero_unsigned = tt

-- a test that passes where n is 0, and nowhere else
none : (a b n : ℕ) → (a ≡ b → n ≡ 0) → (n ≡ 0 → a ≡ b) → eqb a b ≡ leb n 0
none a b n there back = go (leb n 0) refl
  where
    go : (t : Bool) → leb n 0 ≡ t → eqb a b ≡ t
    go true h = eq-eqb a b (back (omega (arith, leb-true n 0 h)))
    go false h = ne_eqb a b (λ e. omega (arith, there e, leb-false n 0 h))

-- ---- a finite double
module _ (s : Bool) (m : ℕ) (e : ℤ) (t : T (fits binary64 (fin s m e))) where
  abbrev size : Float
  size = fin false m e

  pub size_fits : T (fits binary64 size)
  unfolding absolute
  size_fits = absolute_fits binary64 (fin s m e) t

  pub size_unsigned : T (unsigned size)
  unfolding unsigned
  size_unsigned = tt

  units_zero : leb (units_of binary64 size) 0 ≡ eqb (to_bits binary64 size) 0
  units_zero =
      ap (leb (units_of binary64 size)) (sym zero_unit)
      ∙ sym (units_order size zero size_fits (of_bits-fits binary64 0) size_unsigned zero_unsigned)
      ∙ bits_order size zero size_fits (of_bits-fits binary64 0) size_unsigned zero_unsigned
      ∙ ap (leb (to_bits binary64 size)) zero_bits
      ∙ sym (none (to_bits binary64 size) 0 (to_bits binary64 size) (λ e. e) (λ e. e))

  zero_units : eq (fin s m e) zero ≡ leb (units_of binary64 size) 0
  unfolding plus less units_of
  zero_units = eq_is binary64 (fin s m e) zero t (of_bits-fits binary64 0) tt (unfold of_bits in tt) ∙ rw (zero_parts.0, zero_parts.1) (go s)
    where
      go : (s : Bool) → eqb (plus binary64 (fin s m e) + 0) (0 + less binary64 (fin s m e)) ≡ leb (units_of binary64 size) 0
      go false = let n = units_of binary64 size in none (n + 0) (0 + 0) n (λ e. omega arith) (λ e. omega arith)
      go true = let n = units_of binary64 size in none (0 + 0) (0 + n) n (λ e. omega arith) (λ e. omega arith)

  pub is_zero : eq (fin s m e) zero ≡ eqb (to_bits binary64 size) 0
  is_zero = zero_units ∙ units_zero

  -- below the bits of +infinity, by which nothing but an infinity is written
  pub below_infinity : to_bits binary64 size < 0x7ff0_0000_0000_0000
  unfolding absolute
  below_infinity = less_than _ (ltb-false 0x7ff0_0000_0000_0000 (to_bits binary64 size % 9223372036854775808) no_nan) (size_bits size size_fits) no_infinity
    where
      no_nan : ltb 0x7ff0_0000_0000_0000 (to_bits binary64 size % 9223372036854775808) ≡ false
      no_nan = sym (nan_bits_above binary64 (to_bits binary64 size)) ∙ nan_bits_is binary64 (to_bits binary64 size) ∙ rw (of_bits-to_bits binary64 size size_fits) (unfold is_nan in refl)

      no_infinity : to_bits binary64 size ≡ 0x7ff0_0000_0000_0000 → ⊥
      no_infinity h =
          let is : size ≡ inf false = sym (of_bits-to_bits binary64 size size_fits) ∙ ap (of_bits binary64) h ∙ unfold of_bits in refl in
          true≢false (ap finite is)

      less_than : (b : ℕ) {c : ℕ} → c ≤ 0x7ff0_0000_0000_0000 → c ≡ b → (b ≡ 0x7ff0_0000_0000_0000 → ⊥) → b < 0x7ff0_0000_0000_0000
      less_than b h e n = omega arith

-- ---- at least 0: what has no minus sign, and −0.0
pub from_zero : (m : ℕ) (e : ℤ) → T (fits binary64 (fin false m e)) → le zero (fin false m e) ≡ true
unfolding plus less units_of
from_zero m e t = le_is binary64 zero (fin false m e) (of_bits-fits binary64 0) t (unfold of_bits in tt) tt ∙ rw (zero_parts.0, zero_parts.1) (le-leb (0 + 0) (units_of binary64 (fin false m e) + 0) zero-le)

pub minus_zero_lem : (m : ℕ) (e : ℤ) (t : T (fits binary64 (fin true m e))) → le zero (fin true m e) ≡ eqb (to_bits binary64 (fin false m e)) 0
unfolding plus less units_of
minus_zero_lem m e t =
    le_is binary64 zero (fin true m e) (of_bits-fits binary64 0) t (unfold of_bits in tt) tt
    ∙ rw (zero_parts.0, zero_parts.1) (ap (λ (n : ℕ). leb n 0) (zero-add (units_of binary64 (fin false m e))))
    ∙ units_zero true m e t
