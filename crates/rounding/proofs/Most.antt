-- Upper bounds that rounding keeps: sums and products of numbers that are not negative and at most A * 2 ^ a units, where the bound of the result is a number of the format. So nothing overflows on the way. Assumes nothing.
use Prim.Native.Nat.{◌*◌, ◌+◌, ◌-◌, ◌<◌, ◌^◌, ◌≤◌, suc, ℕ}
use mathlib.Core.Path.{◌∙◌, ◌≡◌, ap, refl, sym}
use native.Mathlib.Nat.{le_of_eq, le_trans, lt_of_le_of_lt, mul-le-mul, mul-le-mul_right, mul-pos}
use native.Mathlib.Omega.{arith}
use lib.Dec.{T}
use lib.Ieee.{Float, Format, add, emax, fits, low, mul, prec}
use lib.Ieee.Fits.{add-fits, mul-fits}
use lib.Ieee.Scale.{finite, grid, overflow}
use lib.Pow.{pow-add, pow_pos}
use Rattle.rounding.proofs.Grid.{grid_exact, grid_mono, grid_zero}
use Rattle.rounding.proofs.Rounded.{Rounded, rounded_finite, rounded_parts}
use Rattle.rounding.proofs.Sizes.{add_pos_is, mul_pos_is}
use Rattle.rounding.specs.Value.{less, plus}

pub record Most (f : Format) (A a : ℕ) (w : Float) : Type 0 where
  pub held : T (fits f w)
  pub is_finite : T (finite w)
  pub no_less : less f w ≡ 0
  pub most : plus f w ≤ A * 2 ^ a

-- what is rounded is at most B * 2 ^ b, where that is a number of the format
module _ (f : Format) (z : Float) (P c B b : ℕ) (C : 0 < c) (held : T (fits f z)) (r : Rounded f z P 0 c) (few : B < 2 ^ prec f) (small : B * 2 ^ b < overflow f) (h : P * 2 ^ low f ≤ B * 2 ^ b * c) where
  at_most : grid f P c ≤ B * 2 ^ b
  at_most =
      le_trans (grid_mono f P c (B * 2 ^ b) (2 ^ low f) C (pow_pos (low f)) h)
      (le_of_eq (grid_exact f (B * 2 ^ b) (2 ^ low f) B b (pow_pos (low f)) few refl))

  above_none : grid f (0 - P) c ≡ 0
  above_none = let e : 0 - P ≡ 0 = omega arith in ap (λ (n : ℕ). grid f n c) e ∙ grid_zero f c C

  whole : grid f (P - 0) c ≡ grid f P c
  whole = let e : P - 0 ≡ P = omega arith in ap (λ (n : ℕ). grid f n c) e

  is_finite_lem : T (finite z)
  is_finite_lem = rounded_finite f z P 0 c r (lt_of_le_of_lt (le_trans (le_of_eq whole) at_most) small) (lt_of_le_of_lt (le_of_eq above_none) (pow_pos (low f + suc (emax f))))

  pub most_rounded : Most f B b z
  most_rounded =
      let p = rounded_parts f z P 0 c C r is_finite_lem in
      record { held = held; is_finite = is_finite_lem; no_less = p.is_less ∙ above_none; most = le_trans (le_of_eq (p.is_plus ∙ whole)) at_most }

pub most_add : (f : Format) (A B a : ℕ) (w v : Float) → A + B < 2 ^ prec f → (A + B) * 2 ^ a < overflow f → Most f A a w → Most f B a v → Most f (A + B) a (add f w v)
most_add f A B a w v few small m n =
    most_rounded f (add f w v) (plus f w + plus f v) (2 ^ low f) (A + B) a (pow_pos (low f)) (add-fits f w v)
    (add_pos_is f w v m.held n.held m.is_finite n.is_finite m.no_less n.no_less) few small
    (mul-le-mul_right (2 ^ low f) (both (plus f w) (plus f v) A B (2 ^ a) m.most n.most))
  where
    both : (x y A B t : ℕ) → x ≤ A * t → y ≤ B * t → x + y ≤ (A + B) * t
    both x y A B t h k = omega arith

pub most_mul : (f : Format) (A B a b c : ℕ) (w v : Float) → A * B < 2 ^ prec f → A * B * 2 ^ c < overflow f → c + low f ≡ a + b → Most f A a w → Most f B b v → Most f (A * B) c (mul f w v)
most_mul f A B a b c w v few small e m n =
    let U = 2 ^ low f in
    most_rounded f (mul f w v) (plus f w * plus f v) (U * U) (A * B) c (mul-pos (pow_pos (low f)) (pow_pos (low f))) (mul-fits f w v)
    (mul_pos_is f w v m.held n.held m.is_finite n.is_finite m.no_less n.no_less) few small
    (bound (plus f w) (plus f v) A B (2 ^ a) (2 ^ b) (2 ^ c) U m.most n.most (sym (pow-add 2 a b) ∙ ap (λ (k : ℕ). 2 ^ k) (sym e) ∙ pow-add 2 c (low f)))
  where
    bound : (x y A B s t r U : ℕ) → x ≤ A * s → y ≤ B * t → s * t ≡ r * U → x * y * U ≤ A * B * r * (U * U)
    bound x y A B s t r U h k q =
        let m : x * y ≤ A * s * (B * t) = mul-le-mul h k in
        let p : A * s * (B * t) ≡ A * B * (r * U) = turn A B s t ∙ ap (λ (k : ℕ). A * B * k) q in
        le_trans (mul-le-mul_right U (le_trans m (le_of_eq p))) (le_of_eq (last A B r U))
      where
        turn : (A B s t : ℕ) → A * s * (B * t) ≡ A * B * (s * t)
        turn A B s t = omega arith

        last : (A B r U : ℕ) → A * B * (r * U) * U ≡ A * B * r * (U * U)
        last A B r U = omega arith

pub most_weaken : (f : Format) (A a B b : ℕ) (w : Float) → A * 2 ^ a ≤ B * 2 ^ b → Most f A a w → Most f B b w
most_weaken f A a B b w h m = record { held = m.held; is_finite = m.is_finite; no_less = m.no_less; most = le_trans m.most h }
