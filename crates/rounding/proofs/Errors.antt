-- The errors of round, add, sub and mul, with absolute values of integers: half a unit in the last place, and no overflow up to 2 ^ emax. Assumes nothing.
use Prim.Native.Nat.{◌*◌, ◌+◌, ◌-◌, ◌<◌, ◌^◌, ◌≤◌, suc, ℕ}
use mathlib.Core.Bool.{Bool, false, true}
use mathlib.Core.Logic.{inr}
use mathlib.Core.Path.{◌∙◌, ◌≡◌, ap, refl, subst, sym}
use native.Mathlib.Nat.{le-add_left, le-add_right, le_of_eq, le_trans, lt_of_le_of_lt, mul_comm, mul-one, one-mul, sub-le}
use native.Mathlib.Omega.{arith}
use lib.Dec.{T}
use lib.Ieee.{Float, Format, add, emax, fin, fits, inf, low, mul, nan, neg, prec, round, sub}
use lib.Ieee.Exact.{HasValue}
use lib.Ieee.Fits.{neg-fits, two, two-le_pos}
use lib.Ieee.Scale.{finite, grid, overflow}
use lib.IntN.{◌*ℤ◌, ◌+ℤ◌, ◌-ℤ◌, nat_abs, neg_ℤ, neg_ℤ-neg_ℤ, pos, ℤ}
use lib.Pow.{pow-add, pow-lt, pow_pos}
use Rattle.binary64.specs.Units.{units_of}
use Rattle.rounding.proofs.Gap.{Gap, gap_first, gap_other, gap→abs}
use Rattle.rounding.proofs.Grid.{Within, grid_exact, grid_mono, grid_near}
use Rattle.rounding.proofs.Integers.{above, abs_parts, add_parts, mul_parts, under}
use Rattle.rounding.proofs.Parts.{round_val, same_units, val_above, val_under}
use Rattle.rounding.proofs.Rounded.{Rounded, add_finite, add_is, mul_finite, mul_is, rounded_finite}
use Rattle.rounding.proofs.RoundedGap.{product_gap, sum_gap}
use Rattle.rounding.specs.Value.{less, plus, val}

-- ---- LAW 1: a fraction rounded. It does not overflow if it is at most 2 ^ emax.
pub no_overflow : (f : Format) (a c : ℕ) → 0 < c → a ≤ c * 2 ^ emax f → grid f a c < overflow f
no_overflow f a c C h =
    lt_of_le_of_lt (grid_mono f a c (2 ^ emax f) 1 C (pow_pos 0) (le_trans (le_of_eq (mul-one a)) (le_trans h (le_of_eq (mul_comm c (2 ^ emax f))))))
    (subst (λ (n : ℕ). n < overflow f) (sym e) (subst (λ (n : ℕ). n < overflow f) (sym (one-mul (2 ^ (low f + emax f)))) (pow-lt (more (low f) (emax f)))))
  where
    more : (a b : ℕ) → a + b < a + suc b
    more a b = omega arith

    e : grid f (2 ^ emax f) 1 ≡ 1 * 2 ^ (low f + emax f)
    e = grid_exact f (2 ^ emax f) 1 1 (low f + emax f) (pow_pos 0) (pow-lt (two-le_pos (prec f) (two f))) (mul_comm (2 ^ emax f) (2 ^ low f) ∙ sym (pow-add 2 (low f) (emax f)) ∙ sym (mul-one (1 * 2 ^ (low f + emax f)) ∙ one-mul (2 ^ (low f + emax f))))

-- neither does a sum or a product whose exact parts are
pub small_finite : (f : Format) (z : Float) (p q c : ℕ) → 0 < c → Rounded f z p q c → p ≤ c * 2 ^ emax f → q ≤ c * 2 ^ emax f → T (finite z)
small_finite f z p q c C r h k = rounded_finite f z p q c r (no_overflow f (p - q) c C (le_trans (sub-le p q) h)) (no_overflow f (q - p) c C (le_trans (sub-le q p) k))

pub round_error : (f : Format) (s : Bool) (a c : ℕ) → 0 < c → a ≤ c * 2 ^ emax f
    → (R : ℕ) × HasValue (round f s a c) s R (2 ^ low f) × Within (2 ^ prec f) (R * c) (a * 2 ^ low f) (a * 2 ^ low f + c * 2 ^ (prec f - 1))
round_error f s a c C h = (
  grid f a c,
  round_val f s a c (no_overflow f a c C h),
  grid_near f a c (a * 2 ^ low f + c * 2 ^ (prec f - 1)) C (le-add_right (a * 2 ^ low f) (c * 2 ^ (prec f - 1))) (le-add_left (c * 2 ^ (prec f - 1)) (a * 2 ^ low f)),
)

-- ---- LAW 2: a sum. Its error is relative only.
to_val : (f : Format) (z : Float) (D B c d : ℕ) → Gap D B (plus f z) (less f z) c d → Gap D B (above (val f z)) (under (val f z)) c d
to_val f z D B c d g =
    subst (λ (n : ℕ). Gap D B n (under (val f z)) c d) (sym (val_above f z)) (subst (λ (n : ℕ). Gap D B (plus f z) n c d) (sym (val_under f z)) g)

pub add_error : (f : Format) (x y : Float) → T (fits f x) → T (fits f y) → T (finite (add f x y)) → nat_abs (val f (add f x y) -ℤ (val f x +ℤ val f y)) * 2 ^ prec f ≤ nat_abs (val f x +ℤ val f y)
add_error f x y p q t =
    let i = add_finite f x y t in
    let Z = val f x +ℤ val f y in
    let e : above Z + (less f x + less f y) ≡ under Z + (plus f x + plus f y) = omega (arith, add_parts (val f x) (val f y), val_above f x, val_under f x, val_above f y, val_under f y) in
    let a = abs_parts Z in
    gap→abs (2 ^ prec f) (nat_abs Z) (val f (add f x y)) Z
    (to_val f (add f x y) (2 ^ prec f) (nat_abs Z) (above Z) (under Z)
    (gap_other (above Z) (under Z) (omega arith)
    (sum_gap f (add f x y) (plus f x + plus f y) (less f x + less f y) (nat_abs Z) (add_is f x y p q i.0 i.1) t (omega arith) (omega arith))))

-- a difference is a sum with the number turned round
pub val_neg : (f : Format) (x : Float) → val f (neg x) ≡ neg_ℤ (val f x)
unfolding val neg
val_neg f nan = refl
val_neg f (inf s) = refl
val_neg f (fin true m e) = sym (neg_ℤ-neg_ℤ (pos (units_of f (fin false m e)))) ∙ ap (λ (n : ℕ). neg_ℤ (neg_ℤ (pos n))) (same_units f true false m e)
val_neg f (fin false m e) = ap (λ (n : ℕ). neg_ℤ (pos n)) (same_units f true false m e)

pub sub_error : (f : Format) (x y : Float) → T (fits f x) → T (fits f y) → T (finite (sub f x y)) → nat_abs (val f (sub f x y) -ℤ (val f x -ℤ val f y)) * 2 ^ prec f ≤ nat_abs (val f x -ℤ val f y)
unfolding sub
sub_error f x y p q t =
    subst (λ (v : ℤ). nat_abs (val f (add f x (neg y)) -ℤ (val f x +ℤ v)) * 2 ^ prec f ≤ nat_abs (val f x +ℤ v)) (val_neg f y)
    (add_error f x (neg y) p (neg-fits f y q) t)

-- exact products, by parts
pub product_parts : (f : Format) (x y : Float) → above (val f x *ℤ val f y) + (plus f x * less f y + less f x * plus f y) ≡ under (val f x *ℤ val f y) + (plus f x * plus f y + less f x * less f y)
product_parts f x y = simp (val_above, val_under) at (mul_parts (val f x) (val f y))

pub times_parts : (f : Format) (z : Float) (U : ℕ) → above (val f z *ℤ pos U) + less f z * U ≡ under (val f z *ℤ pos U) + plus f z * U
times_parts f z U = let h = simp (val_above, val_under) at (mul_parts (val f z) (pos U)) in omega arith

-- ---- LAW 3: a product. Its error is relative, or half a unit.
pub mul_error : (f : Format) (x y : Float) → T (fits f x) → T (fits f y) → T (finite (mul f x y))
    → nat_abs (val f (mul f x y) *ℤ pos (2 ^ low f) -ℤ val f x *ℤ val f y) * 2 ^ prec f ≤ nat_abs (val f x *ℤ val f y) + 2 ^ (prec f - 1) * 2 ^ low f
mul_error f x y p q t =
    let i = mul_finite f x y t in
    let U = 2 ^ low f in
    let Z = val f x *ℤ val f y in
    let R = val f (mul f x y) *ℤ pos U in
    let B = nat_abs Z + 2 ^ (prec f - 1) * U in
    let P = plus f x * plus f y + less f x * less f y in
    let Q = plus f x * less f y + less f x * plus f y in
    let e : above Z + Q ≡ under Z + P = product_parts f x y in
    let r : above R + less f (mul f x y) * U ≡ under R + plus f (mul f x y) * U = times_parts f (mul f x y) U in
    let a = abs_parts Z in
    gap→abs (2 ^ prec f) B R Z
    (gap_first (above R) (under R) (omega arith)
    (gap_other (above Z) (under Z) (omega arith)
    (product_gap f (mul f x y) P Q B (mul_is f x y p q i.0 i.1) t (omega arith) (omega arith) (inr (le-add_left (2 ^ (prec f - 1) * U) (nat_abs Z))))))
