-- The error of what is rounded, as a gap: of any result, of a sum, and of a product. Assumes nothing.
use Prim.Native.Nat.{◌*◌, ◌+◌, ◌-◌, ◌<◌, ◌^◌, ◌≤◌, ℕ}
use mathlib.Core.Logic.{◌⊎◌, inl, inr}
use mathlib.Core.Path.{◌∙◌, ◌≡◌, ap, refl, subst, sym}
use native.Mathlib.Nat.{add-mul, le_of_eq, le_trans, mul_assoc, mul_comm, mul-le-mul_right, mul-pos}
use native.Mathlib.Omega.{arith}
use lib.Dec.{T}
use lib.Ieee.{Float, Format, low, prec}
use lib.Ieee.Scale.{finite, grid}
use lib.Pow.{pow_pos}
use Rattle.rounding.proofs.Gap.{Gap, gap_cancel, gap_swap}
use Rattle.rounding.proofs.Grid.{Within, grid_near, grid_whole, grid_zero}
use Rattle.rounding.proofs.Parts.{Parts}
use Rattle.rounding.proofs.Rounded.{Rounded, downward, rounded_parts, upward}
use Rattle.rounding.specs.Value.{less, plus}

-- ---- what is rounded, with the error as a gap
gap_up : (D B G c U t q : ℕ) → Within D (G * c) (t * U) B → Gap D B (G * c) (0 * c) ((t + q) * U) (q * U)
gap_up D B G c U t q w = record { over = omega arith; under = omega arith }

back : (p q : ℕ) → q ≤ p → p - q + q ≡ p
back p q h = omega arith

gone : (p q : ℕ) → q ≤ p → q - p ≡ 0
gone p q h = omega arith

bounded : (p q U B : ℕ) → q ≤ p → p * U ≤ q * U + B → (p - q) * U ≤ B
bounded p q U B l h = let e : (p - q + q) * U ≡ p * U = ap (λ (n : ℕ). n * U) (back p q l) in omega (arith, add-mul (p - q) q U)

half_gap : (f : Format) (p q c B : ℕ) → 0 < c → q ≤ p → Within (2 ^ prec f) (grid f (p - q) c * c) ((p - q) * 2 ^ low f) B
    → Gap (2 ^ prec f) B (grid f (p - q) c * c) (grid f (q - p) c * c) (p * 2 ^ low f) (q * 2 ^ low f)
half_gap f p q c B C l w =
    subst (λ (n : ℕ). Gap (2 ^ prec f) B (grid f (p - q) c * c) (n * c) (p * 2 ^ low f) (q * 2 ^ low f)) (sym (ap (λ (n : ℕ). grid f n c) (gone p q l) ∙ grid_zero f c C))
    (subst (λ (n : ℕ). Gap (2 ^ prec f) B (grid f (p - q) c * c) (0 * c) (n * 2 ^ low f) (q * 2 ^ low f)) (back p q l)
    (gap_up (2 ^ prec f) B (grid f (p - q) c) c (2 ^ low f) (p - q) q w))

by_parts : (f : Format) (z : Float) (c D B p q P Q : ℕ) → Parts f z P Q → Gap D B (P * c) (Q * c) p q → Gap D B (plus f z * c) (less f z * c) p q
by_parts f z c D B p q P Q r g =
    subst (λ (n : ℕ). Gap D B (n * c) (less f z * c) p q) (sym r.is_plus) (subst (λ (n : ℕ). Gap D B (P * c) (n * c) p q) (sym r.is_less) g)

-- LAW 1 with signs. B is any bound of the exact result, and of 2 ^ (prec - 1) units.
pub rounded_gap : (f : Format) (z : Float) (p q c B : ℕ) → 0 < c → Rounded f z p q c → T (finite z) → p * 2 ^ low f ≤ q * 2 ^ low f + B → q * 2 ^ low f ≤ p * 2 ^ low f + B → c * 2 ^ (prec f - 1) ≤ B
    → Gap (2 ^ prec f) B (plus f z * c) (less f z * c) (p * 2 ^ low f) (q * 2 ^ low f)
rounded_gap f z p q c B C r t h k y = by_parts f z c (2 ^ prec f) B (p * 2 ^ low f) (q * 2 ^ low f) (grid f (p - q) c) (grid f (q - p) c) (rounded_parts f z p q c C r t) (go r)
  where
    go : Rounded f z p q c → Gap (2 ^ prec f) B (grid f (p - q) c * c) (grid f (q - p) c * c) (p * 2 ^ low f) (q * 2 ^ low f)
    go (upward l r) = half_gap f p q c B C l (grid_near f (p - q) c B C (bounded p q (2 ^ low f) B l h) y)
    go (downward l r) = gap_swap (half_gap f q p c B C l (grid_near f (q - p) c B C (bounded q p (2 ^ low f) B l k) y))

-- ---- a sum: whole numbers of units, so that only the relative error is left
up_whole : (D B G t q : ℕ) → t ≤ B → Within D G t t → Gap D B G 0 (t + q) q
up_whole D B G t q h w = record { over = omega arith; under = omega arith }

small : (p q B : ℕ) → p ≤ q + B → p - q ≤ B
small p q B h = omega arith

half_whole : (f : Format) (p q B : ℕ) → q ≤ p → p ≤ q + B → Gap (2 ^ prec f) B (grid f (p - q) (2 ^ low f)) (grid f (q - p) (2 ^ low f)) p q
half_whole f p q B l h =
    let c = 2 ^ low f in
    subst (λ (n : ℕ). Gap (2 ^ prec f) B (grid f (p - q) c) n p q) (sym (ap (λ (n : ℕ). grid f n c) (gone p q l) ∙ grid_zero f c (pow_pos (low f))))
    (subst (λ (n : ℕ). Gap (2 ^ prec f) B (grid f (p - q) c) 0 n q) (back p q l)
    (up_whole (2 ^ prec f) B (grid f (p - q) c) (p - q) q (small p q B h) (grid_whole f (p - q) c (p - q) (pow_pos (low f)) refl)))

pub sum_gap : (f : Format) (z : Float) (p q B : ℕ) → Rounded f z p q (2 ^ low f) → T (finite z) → p ≤ q + B → q ≤ p + B → Gap (2 ^ prec f) B (plus f z) (less f z) p q
sum_gap f z p q B r t h k =
    let s = rounded_parts f z p q (2 ^ low f) (pow_pos (low f)) r t in
    subst (λ (n : ℕ). Gap (2 ^ prec f) B n (less f z) p q) (sym s.is_plus) (subst (λ (n : ℕ). Gap (2 ^ prec f) B (grid f (p - q) (2 ^ low f)) n p q) (sym s.is_less) (go r))
  where
    go : Rounded f z p q (2 ^ low f) → Gap (2 ^ prec f) B (grid f (p - q) (2 ^ low f)) (grid f (q - p) (2 ^ low f)) p q
    go (upward l r) = half_whole f p q B l h
    go (downward l r) = gap_swap (half_whole f q p B l k)

-- ---- a product: p and q are of units times units. Its bound B is 0, or it is in the normal range.
abbrev pub Normal : Format → ℕ → Type 0
Normal f B = (B ≡ 0) ⊎ (2 ^ (prec f - 1) * 2 ^ low f ≤ B)

pub product_gap : (f : Format) (z : Float) (p q B : ℕ) → Rounded f z p q (2 ^ low f * 2 ^ low f) → T (finite z) → p ≤ q + B → q ≤ p + B → Normal f B → Gap (2 ^ prec f) B (plus f z * 2 ^ low f) (less f z * 2 ^ low f) p q
product_gap f z p q B r t h k (inl e) =
    let U = 2 ^ low f in
    let s = rounded_parts f z p q (U * U) (mul-pos (pow_pos (low f)) (pow_pos (low f))) r t in
    let x : p - q ≡ 0 = omega arith in
    let y : q - p ≡ 0 = omega arith in
    let X : plus f z ≡ 0 = s.is_plus ∙ ap (λ (n : ℕ). grid f n (U * U)) x ∙ grid_zero f (U * U) (mul-pos (pow_pos (low f)) (pow_pos (low f))) in
    let Y : less f z ≡ 0 = s.is_less ∙ ap (λ (n : ℕ). grid f n (U * U)) y ∙ grid_zero f (U * U) (mul-pos (pow_pos (low f)) (pow_pos (low f))) in
    subst (λ (n : ℕ). Gap (2 ^ prec f) B (n * U) (less f z * U) p q) (sym X) (subst (λ (n : ℕ). Gap (2 ^ prec f) B (0 * U) (n * U) p q) (sym Y) (level U (2 ^ prec f) (omega arith)))
  where
    level : (U D : ℕ) → p ≡ q → Gap D B (0 * U) (0 * U) p q
    level U D e = let d : p * D ≡ q * D = ap (λ (n : ℕ). n * D) e in record { over = omega arith; under = omega arith }
product_gap f z p q B r t h k (inr e) =
    let U = 2 ^ low f in
    let x : p * U ≤ q * U + B * U = le_trans (mul-le-mul_right U h) (le_of_eq (add-mul q B U)) in
    let y : q * U ≤ p * U + B * U = le_trans (mul-le-mul_right U k) (le_of_eq (add-mul p B U)) in
    let w : U * U * 2 ^ (prec f - 1) ≤ B * U = le_trans (le_of_eq (mul_comm (U * U) (2 ^ (prec f - 1)) ∙ sym (mul_assoc (2 ^ (prec f - 1)) U U))) (mul-le-mul_right U e) in
    gap_cancel U (pow_pos (low f))
    (subst (λ (n : ℕ). Gap (2 ^ prec f) (B * U) n (less f z * U * U) (p * U) (q * U)) (sym (mul_assoc (plus f z) U U))
    (subst (λ (n : ℕ). Gap (2 ^ prec f) (B * U) (plus f z * (U * U)) n (p * U) (q * U)) (sym (mul_assoc (less f z) U U))
    (rounded_gap f z p q (U * U) (B * U) (mul-pos (pow_pos (low f)) (pow_pos (low f))) r t x y w)))
