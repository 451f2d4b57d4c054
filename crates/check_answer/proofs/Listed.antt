-- A number that refusal 18 lets pass is 0 or from 2 ^ 924 to 2 ^ 1224 units: an exact input of the error analysis. Assumes nothing.
use Prim.Native.Nat.{ℕ, ◌+◌, ◌^◌, ◌≤◌, zero-le}
use mathlib.Core.Path.{◌≡◌, refl, sym, ◌∙◌, subst}
use mathlib.Core.Bool.{Bool, true, false, ◌&&◌, ◌||◌, true≢false}
use mathlib.Core.Logic.{◌⊎◌, inl, inr}
use native.Mathlib.Nat.{one-mul, le_trans, le_of_eq}
use native.Mathlib.Omega.{arith}
use lib.Dec.{T}
use lib.Ieee.{Float, nan, inf, fin, binary64, eq, le, lt, fits, of_bits}
use lib.Ieee.Scale.{finite}
use borrow.Author.Tests.{eqb-true, leb-true}
use Rattle.loops.specs.Cleared.{plus_zero}
use Rattle.binary64.specs.Units.{units_of}
use Rattle.binary64.specs.Order.{absolute}
use Rattle.rounding.specs.Value.{plus, less}
use Rattle.rounding.proofs.Parts.{one_side}
use Rattle.rounding.proofs.Compare.{eq_is, le_is}
use Rattle.rounding.proofs.Near.{Floor}
use Rattle.rounding.proofs.Absolute.{absolute_fits, absolute_finite, absolute_parts, near_of}
use Rattle.check_range.specs.Range.{least, most, in_range}
use Rattle.check_measure.proofs.Values.{Listed}

-- ---- the three numbers of the test
zero_fits : T (fits binary64 plus_zero)
unfolding of_bits fits
zero_fits = tt

zero_finite : T (finite plus_zero)
unfolding of_bits
zero_finite = tt

zero_parts : (plus binary64 plus_zero ≡ 0) × (less binary64 plus_zero ≡ 0)
unfolding of_bits plus less units_of
zero_parts = (refl, refl)

least_fits : T (fits binary64 least)
unfolding of_bits fits
least_fits = tt

least_finite : T (finite least)
unfolding of_bits
least_finite = tt

least_parts : (plus binary64 least ≡ 2 ^ 924) × (less binary64 least ≡ 0)
unfolding of_bits plus less units_of
least_parts = (refl, refl)

most_fits : T (fits binary64 most)
unfolding of_bits fits
most_fits = tt

most_finite : T (finite most)
unfolding of_bits
most_finite = tt

most_parts : (plus binary64 most ≡ 2 ^ 1224) × (less binary64 most ≡ 0)
unfolding of_bits plus less units_of
most_parts = (refl, refl)

-- ---- what the test tells
record Ranged (x : Float) : Type 0 where
  is_finite : T (finite x)
  floor : Floor 924 (plus binary64 x + less binary64 x)
  top : plus binary64 x + less binary64 x ≤ 2 ^ 1224

equal_finite : (x : Float) → eq x plus_zero ≡ true → T (finite x)
unfolding eq of_bits
equal_finite nan h = absurd (true≢false (sym h))
equal_finite (inf s) h = absurd (true≢false (sym h))
equal_finite (fin s m e) h = tt

at_zero : (x : Float) → T (fits binary64 x) → eq x plus_zero ≡ true → Ranged x
at_zero x t h =
    let i = equal_finite x h in
    let p = zero_parts.0 in
    let q = zero_parts.1 in
    let e : plus binary64 x + less binary64 plus_zero ≡ plus binary64 plus_zero + less binary64 x = eqb-true (plus binary64 x + less binary64 plus_zero) (plus binary64 plus_zero + less binary64 x) (sym (eq_is binary64 x plus_zero t zero_fits i zero_finite) ∙ h) in
    let z = none (plus binary64 x) (less binary64 x) (one_side binary64 x) (omega arith) in
    record { is_finite = i; floor = inl z; top = subst (λ (k : ℕ). k ≤ 2 ^ 1224) (sym z) zero-le }
  where
    none : (p q : ℕ) → (p ≡ 0) ⊎ (q ≡ 0) → p ≡ q → p + q ≡ 0
    none p q (inl a) e = omega arith
    none p q (inr a) e = omega arith

sized_finite : (x : Float) → le least (absolute x) ≡ true → le (absolute x) most ≡ true → T (finite x)
unfolding absolute le lt eq of_bits
sized_finite nan h k = absurd (true≢false (sym h))
sized_finite (inf s) h k = absurd (true≢false (sym k))
sized_finite (fin s m e) h k = tt

at_size : (x : Float) → T (fits binary64 x) → le least (absolute x) ≡ true → le (absolute x) most ≡ true → Ranged x
at_size x t h k =
    let i = sized_finite x h k in
    let a = absolute x in
    let f = absolute_fits binary64 x t in
    let g = absolute_finite x i in
    let P = (absolute_parts binary64 x).is_plus in
    let Q = (absolute_parts binary64 x).is_less in
    let low : plus binary64 least + less binary64 a ≤ plus binary64 a + less binary64 least = leb-true (plus binary64 least + less binary64 a) (plus binary64 a + less binary64 least) (sym (le_is binary64 least a least_fits f least_finite g) ∙ h) in
    let high : plus binary64 a + less binary64 most ≤ plus binary64 most + less binary64 a = leb-true (plus binary64 a + less binary64 most) (plus binary64 most + less binary64 a) (sym (le_is binary64 a most f most_fits g most_finite) ∙ k) in
    record {
      is_finite = i;
      floor = inr (above (plus binary64 least) (less binary64 a) (plus binary64 a) (less binary64 least) (2 ^ 924) (plus binary64 x + less binary64 x) least_parts.0 Q least_parts.1 P low);
      top = below (plus binary64 a) (less binary64 most) (plus binary64 most) (less binary64 a) (2 ^ 1224) (plus binary64 x + less binary64 x) most_parts.0 Q P high;
    }
  where
    above : (l q a m N s : ℕ) → l ≡ N → q ≡ 0 → m ≡ 0 → a ≡ s → l + q ≤ a + m → N ≤ s
    above l q a m N s e f g p h = omega arith

    below : (a m t q N s : ℕ) → t ≡ N → q ≡ 0 → a ≡ s → a + m ≤ t + q → s ≤ N
    below a m t q N s e f p h = omega arith

ranged : (x : Float) → T (fits binary64 x) → in_range x ≡ true → Ranged x
unfolding in_range
ranged x t h = go (eq x plus_zero) (le least (absolute x)) (le (absolute x) most) refl refl refl h
  where
    go : (a b c : Bool) → eq x plus_zero ≡ a → le least (absolute x) ≡ b → le (absolute x) most ≡ c → (a || (b && c)) ≡ true → Ranged x
    go true b c p q r h = at_zero x t p
    go false true true p q r h = at_size x t q r
    go false true false p q r h = absurd (true≢false (sym h))
    go false false c p q r h = absurd (true≢false (sym h))

pub listed : (x : Float) → T (fits binary64 x) → in_range x ≡ true → Listed x
listed x t h =
    let r = ranged x t h in
    let p = absolute_parts binary64 x in
    record {
      near = near_of binary64 924 x (record { held = t; is_finite = r.is_finite; floor = r.floor });
      most = record {
        held = absolute_fits binary64 x t;
        is_finite = absolute_finite x r.is_finite;
        no_less = p.is_less;
        most = le_trans (le_of_eq p.is_plus) (le_trans r.top (le_of_eq (sym (one-mul (2 ^ 1224)))));
      };
    }
