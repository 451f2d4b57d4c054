-- The bits of doubles without a minus sign are ordered as the doubles are. Assumes nothing.
use Prim.Native.Nat.{ℕ, ◌+◌, ◌-◌, ◌*◌, ◌/◌, ◌^◌, ◌<◌, ◌≤◌}
use mathlib.Core.Path.{◌≡◌, refl, sym, ap, ◌∙◌}
use mathlib.Core.Bool.{Bool, true, false}
use mathlib.Core.Logic.{inl, inr}
use native.Mathlib.Nat.{zero-add, add-zero, le_trans, le_of_eq, lt_of_le_of_lt, eq-or-lt_of_le, le-div_iff_mul-le, mul-le-mul_right}
use native.Mathlib.Omega.{arith}
use lib.Dec.{T, leb}
use lib.Pow.{pow-add, pow_pos}
use lib.Ieee.{Float, nan, inf, fin, binary64, size, fits, le, of_bits, to_bits}
use lib.Ieee.Bits.{of_bits-to_bits}
use lib.Ieee.Digits.{size-lt, size-le, size_reaches}
use lib.Ieee.Fits.{kept-lt}
use lib.Ieee.Nearest.{div_mono}
use borrow.Author.Tests.{leb-true, leb-false, le-leb, lt-leb}
use Rattle.binary64.specs.Units.{units_of}
use Rattle.binary64.specs.SquareRoot.{unsigned}
use Rattle.binary64.proofs.Units.{unsigned_finite}
use Rattle.rounding.specs.Value.{plus, less}
use Rattle.rounding.proofs.Compare.{le_is}

-- ---- the bits of a size of n units of 2 ^ -1074: how many digits are dropped, and the 53 that are kept
abbrev pattern : ℕ → ℕ
pattern n = (size n - 53) * 4503599627370496 + n / 2 ^ (size n - 53)

-- where digits are dropped, the highest that is kept is a 1
full : (n : ℕ) → 0 < size n - 53 → 4503599627370496 ≤ n / 2 ^ (size n - 53)
full n h = (le-div_iff_mul-le (pow_pos (size n - 53))).1 (le_trans (le_of_eq (sym (pow-add 2 52 (size n - 53)))) (size_reaches n (52 + (size n - 53)) (among (size n) h)))
  where
    among : (s : ℕ) → 0 < s - 53 → 52 + (s - 53) < s
    among s h = omega arith

pattern_mono : (a b : ℕ) → a ≤ b → pattern a ≤ pattern b
pattern_mono a b h = elim (eq-or-lt_of_le (fewer (size a) (size b) (size-le a (size b) (lt_of_le_of_lt h (size-lt b))))) [
  | inl e ↦ rw e (added ((size b - 53) * 4503599627370496) _ _ (div_mono a (2 ^ (size b - 53)) b (2 ^ (size b - 53)) (pow_pos (size b - 53)) (pow_pos (size b - 53)) (mul-le-mul_right (2 ^ (size b - 53)) h)))
  | inr l ↦ apart (size a - 53) (size b - 53) _ _ l (kept-lt 53 a) (full b (omega arith))
]
  where
    fewer : (s t : ℕ) → s ≤ t → s - 53 ≤ t - 53
    fewer s t h = omega arith

    added : (k x y : ℕ) → x ≤ y → k + x ≤ k + y
    added k x y h = omega arith

    apart : (j k x y : ℕ) → j < k → x < 9007199254740992 → 4503599627370496 ≤ y → j * 4503599627370496 + x ≤ k * 4503599627370496 + y
    apart j k x y h p q = omega arith

-- ---- a double without a minus sign
bits_are : (x : Float) → T (unsigned x) → to_bits binary64 x ≡ pattern (units_of binary64 x)
unfolding unsigned to_bits units_of
bits_are nan u = absurd u
bits_are (inf s) u = absurd u
bits_are (fin true m e) u = absurd u
bits_are (fin false m e) u = let n = units_of binary64 (fin false m e) in ap (λ (k : ℕ). k + n / 2 ^ (size n - 53)) (zero-add ((size n - 53) * 4503599627370496))

parts_are : (x : Float) → T (unsigned x) → (plus binary64 x ≡ units_of binary64 x) × (less binary64 x ≡ 0)
unfolding unsigned plus less
parts_are nan u = absurd u
parts_are (inf s) u = absurd u
parts_are (fin true m e) u = absurd u
parts_are (fin false m e) u = (refl, refl)

same_bits : (x y : Float) → T (fits binary64 x) → T (fits binary64 y) → to_bits binary64 x ≡ to_bits binary64 y → x ≡ y
same_bits x y p q e = sym (of_bits-to_bits binary64 x p) ∙ ap (of_bits binary64) e ∙ of_bits-to_bits binary64 y q

module _ (x y : Float) (p : T (fits binary64 x)) (q : T (fits binary64 y)) (u : T (unsigned x)) (v : T (unsigned y)) where
  pub units_order : le x y ≡ leb (units_of binary64 x) (units_of binary64 y)
  units_order = le_is binary64 x y p q (unsigned_finite x u) (unsigned_finite y v) ∙ rw ((parts_are x u).0, (parts_are x u).1, (parts_are y v).0, (parts_are y v).1, add-zero (units_of binary64 x), add-zero (units_of binary64 y))

  pub bits_order : le x y ≡ leb (to_bits binary64 x) (to_bits binary64 y)
  bits_order = units_order ∙ go (leb (units_of binary64 x) (units_of binary64 y)) refl
    where
      upper : units_of binary64 y < units_of binary64 x → to_bits binary64 y < to_bits binary64 x
      upper l = less_of_lem (rw (bits_are x u, bits_are y v) (pattern_mono (units_of binary64 y) (units_of binary64 x) (omega arith))) (λ e. let s = same_bits y x q p e in let n : units_of binary64 y ≡ units_of binary64 x = ap (units_of binary64) s in omega arith)
        where
          less_of_lem : {a b : ℕ} → a ≤ b → (a ≡ b → ⊥) → a < b
          less_of_lem h n = omega arith

      go : (b : Bool) → leb (units_of binary64 x) (units_of binary64 y) ≡ b → b ≡ leb (to_bits binary64 x) (to_bits binary64 y)
      go true h = sym (le-leb (to_bits binary64 x) (to_bits binary64 y) (rw (bits_are x u, bits_are y v) (pattern_mono (units_of binary64 x) (units_of binary64 y) (leb-true (units_of binary64 x) (units_of binary64 y) h))))
      go false h = sym (lt-leb (to_bits binary64 x) (to_bits binary64 y) (upper (leb-false (units_of binary64 x) (units_of binary64 y) h)))
