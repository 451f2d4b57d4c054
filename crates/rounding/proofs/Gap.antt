-- How far apart two differences of natural numbers are: `Gap D B a b c d` says that |(a - b) - (c - d)| * D ≤ B. It stands for an absolute value of integers, and is linear, so that `omega` proves with it. Assumes nothing.
use Prim.Native.Nat.{◌*◌, ◌+◌, ◌<◌, ◌≤◌, ℕ}
use mathlib.Core.Path.{◌≡◌, ap}
use native.Mathlib.Nat.{le_of_mul-le-mul_right, mul-le-mul_right}
use native.Mathlib.Omega.{arith}
use lib.IntN.{◌-ℤ◌, nat_abs, negsuc, neg_ℤ, pos, ℤ}
use Rattle.rounding.proofs.Integers.{above, add_parts, neg_above, neg_under, under}

pub record Gap (D B a b c d : ℕ) : Type 0 where
  pub over : (a + d) * D ≤ (c + b) * D + B
  pub under : (c + b) * D ≤ (a + d) * D + B

pub gap_refl : (D B a b : ℕ) → Gap D B a b a b
gap_refl D B a b = record { over = omega arith; under = omega arith }

pub gap_weaken : {D B a b c d : ℕ} (C : ℕ) → B ≤ C → Gap D B a b c d → Gap D C a b c d
gap_weaken C h g = record { over = omega arith; under = omega arith }

pub gap_add : {D B a b c d B' a' b' c' d' : ℕ} → Gap D B a b c d → Gap D B' a' b' c' d' → Gap D (B + B') (a + a') (b + b') (c + c') (d + d')
gap_add g h = record { over = omega arith; under = omega arith }

pub gap_trans : {D B a b c d B' c' d' : ℕ} → Gap D B a b c d → Gap D B' c d c' d' → Gap D (B + B') a b c' d'
gap_trans g h = record { over = omega arith; under = omega arith }

-- another pair with the same difference
pub gap_other : {D B a b c d : ℕ} (c' d' : ℕ) → c + d' ≡ c' + d → Gap D B a b c d → Gap D B a b c' d'
gap_other {D} {B} {a} {b} {c} {d} c' d' e g = let s : (c + d') * D ≡ (c' + d) * D = ap (λ (n : ℕ). n * D) e in record { over = omega arith; under = omega arith }

pub gap_first : {D B a b c d : ℕ} (a' b' : ℕ) → a + b' ≡ a' + b → Gap D B a b c d → Gap D B a' b' c d
gap_first {D} {B} {a} {b} {c} {d} a' b' e g = let s : (a + b') * D ≡ (a' + b) * D = ap (λ (n : ℕ). n * D) e in record { over = omega arith; under = omega arith }

-- times a natural number, and times a difference r - s
pub gap_times : {D B a b c d : ℕ} (S : ℕ) → Gap D B a b c d → Gap D (B * S) (a * S) (b * S) (c * S) (d * S)
gap_times S g = let x = mul-le-mul_right S g.over in let y = mul-le-mul_right S g.under in record { over = omega arith; under = omega arith }

pub gap_swap : {D B a b c d : ℕ} → Gap D B a b c d → Gap D B b a d c
gap_swap g = record { over = omega arith; under = omega arith }

pub gap_mul : {D B a b c d : ℕ} (r s : ℕ) → Gap D B a b c d → Gap D (B * (r + s)) (a * r + b * s) (a * s + b * r) (c * r + d * s) (c * s + d * r)
gap_mul r s g = let x = gap_times r g in let y = gap_times s (gap_swap g) in record { over = omega arith; under = omega arith }

pub gap_cancel : {D B a b c d : ℕ} (S : ℕ) → 0 < S → Gap D (B * S) (a * S) (b * S) (c * S) (d * S) → Gap D B a b c d
gap_cancel {D} {B} {a} {b} {c} {d} S P g =
    let x : (a + d) * D * S ≤ ((c + b) * D + B) * S = omega arith in
    let y : (c + b) * D * S ≤ ((a + d) * D + B) * S = omega arith in
    record { over = le_of_mul-le-mul_right x P; under = le_of_mul-le-mul_right y P }

-- ---- a gap as an absolute value
abs_le : (A : ℤ) (D B : ℕ) → above A * D ≤ under A * D + B → under A * D ≤ above A * D + B → nat_abs A * D ≤ B
abs_le (pos n) D B h k = omega arith
abs_le (negsuc n) D B h k = omega arith

pub minus_parts : (A Z : ℤ) → above (A -ℤ Z) + (under A + above Z) ≡ under (A -ℤ Z) + (above A + under Z)
minus_parts A Z = omega (arith, add_parts A (neg_ℤ Z), neg_above Z, neg_under Z)

pub gap→abs : (D B : ℕ) (A Z : ℤ) → Gap D B (above A) (under A) (above Z) (under Z) → nat_abs (A -ℤ Z) * D ≤ B
gap→abs D B A Z g =
    let s : (above (A -ℤ Z) + (under A + above Z)) * D ≡ (under (A -ℤ Z) + (above A + under Z)) * D = ap (λ (n : ℕ). n * D) (minus_parts A Z) in
    abs_le (A -ℤ Z) D B (omega arith) (omega arith)

-- and back
abs_ge : (A : ℤ) (D B : ℕ) → nat_abs A * D ≤ B → (above A * D ≤ under A * D + B) × (under A * D ≤ above A * D + B)
abs_ge (pos n) D B h = omega arith
abs_ge (negsuc n) D B h = omega arith

pub abs→gap : (D B : ℕ) (A Z : ℤ) → nat_abs (A -ℤ Z) * D ≤ B → Gap D B (above A) (under A) (above Z) (under Z)
abs→gap D B A Z h =
    let s : (above (A -ℤ Z) + (under A + above Z)) * D ≡ (under (A -ℤ Z) + (above A + under Z)) * D = ap (λ (n : ℕ). n * D) (minus_parts A Z) in
    let g = abs_ge (A -ℤ Z) D B h in
    record { over = omega arith; under = omega arith }
