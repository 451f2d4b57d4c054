-- Running error analysis. `Near f k S i x w X`: the computed x stands for the exact integer X, which counts units times S (so X is x * S, had nothing been rounded), and the computed w
-- is the same computation on sizes. If w is finite then x is, x is no larger than w, and x is off by at most k * 2 ^ -(prec - 1) of w. And w is 0, or 2 ^ i units at least, so that no product falls below the normal range.
-- A sum of two has k + 1. A product has the sum of their k, and 1. Nothing is asked of overflow: it shows in the last w. Assumes nothing.
use Prim.Native.Nat.{◌*◌, ◌+◌, ◌-◌, ◌<◌, ◌^◌, ◌≤◌, suc, zero-le, ℕ}
use mathlib.Core.Logic.{◌⊎◌, inl, inr}
use mathlib.Core.Path.{◌∙◌, ◌≡◌, ap, subst, sym}
use native.Mathlib.Nat.{le-add_left, le-add_right, le_of_eq, le_of_mul-le-mul_right, le_trans, mul_assoc, mul-le-mul, mul-le-mul_left, mul-le-mul_right, mul-pos, mul-zero, one-mul, zero-mul}
use native.Mathlib.Omega.{arith}
use lib.Dec.{T}
use lib.Ieee.{Float, Format, add, fits, low, mul, neg, prec, sub}
use lib.Ieee.Fits.{add-fits, mul-fits, neg-fits, two, two-le_pos}
use lib.Ieee.Scale.{finite, grid}
use lib.IntN.{◌*ℤ◌, ◌+ℤ◌, ◌-ℤ◌, nat_abs, negsuc, neg_ℤ, pos, ℤ}
use lib.Pow.{pow-add, pow-lt, pow_mono, pow_pos}
use Rattle.rounding.proofs.Errors.{times_parts}
use Rattle.rounding.proofs.Gap.{Gap, gap_add, gap_first, gap_mul, gap_other, gap_swap, gap_times, gap_trans, gap_weaken, gap→abs}
use Rattle.rounding.proofs.Grid.{grid_exact, grid_mono, grid_zero}
use Rattle.rounding.proofs.Integers.{above, add_parts, mul_parts, neg_above, neg_under, under}
use Rattle.rounding.proofs.Parts.{neg_finite, neg_parts, val_above, val_under}
use Rattle.rounding.proofs.Rounded.{Rounded, add_finite, add_is, mul_finite, mul_is}
use Rattle.rounding.proofs.RoundedGap.{Normal, product_gap, sum_gap}
use Rattle.rounding.proofs.Sizes.{add_pos_is, add_smaller, mul_pos_is, mul_smaller, plus_is, spread}
use Rattle.rounding.specs.Value.{less, plus, val}
use base.Logic.{ex}

-- ---- the relation

abbrev pub Floor : ℕ → ℕ → Type 0
Floor i n = (n ≡ 0) ⊎ (2 ^ i ≤ n)

pub record Close (f : Format) (k S i : ℕ) (x w : Float) (X : ℤ) : Type 0 where
  pub is_finite : T (finite x)
  pub no_less : less f w ≡ 0
  pub within : plus f x + less f x ≤ plus f w
  pub gap : Gap (2 ^ prec f) (2 * k * (plus f w * S)) (plus f x * S) (less f x * S) (above X) (under X)
  pub floor : Floor i (plus f w)

pub record Near (f : Format) (k S i : ℕ) (x w : Float) (X : ℤ) : Type 0 where
  pub fits_x : T (fits f x)
  pub fits_w : T (fits f w)
  pub close : T (finite w) → Close f k S i x w X

-- ---- what the rounding of w costs: it is at most 2 ^ -prec smaller
slack : (k z W D : ℕ) → 0 < D → z * D ≤ W * D + z → 2 * k + 2 ≤ D → z + 2 * k * z ≤ 2 * suc k * W
slack k z W D P h l =
    let a : z * D * (2 * k + 2) ≤ (W * D + z) * (2 * k + 2) = mul-le-mul_right (2 * k + 2) h in
    let b : (2 * k + 2) * z ≤ D * z = mul-le-mul_right z l in
    let c : (z + 2 * k * z) * D ≤ 2 * suc k * W * D = omega arith in
    le_of_mul-le-mul_right c P

-- a power of two below the exact result is below the rounded one
pub above_floor : (f : Format) (P c l : ℕ) → 0 < c → 2 ^ l * c ≤ P * 2 ^ low f → 2 ^ l ≤ grid f P c
above_floor f P c l C h =
    let U = 2 ^ low f in
    let e : grid f (2 ^ l) U ≡ 2 ^ l = grid_exact f (2 ^ l) U 1 l (pow_pos (low f)) (pow-lt (two-le_pos (prec f) (two f))) (ap (λ (n : ℕ). n * U) (sym (one-mul (2 ^ l)))) ∙ one-mul (2 ^ l) in
    subst (λ (n : ℕ). n ≤ grid f P c) e (grid_mono f (2 ^ l) U P c (pow_pos (low f)) C h)

floor_of : (f : Format) (u : Float) (P c l : ℕ) → 0 < c → Rounded f u P 0 c → T (finite u) → (P ≡ 0) ⊎ (2 ^ l * c ≤ P * 2 ^ low f) → Floor l (plus f u)
floor_of f u P c l C r t (inl e) = inl (plus_is f u P c C r t ∙ ap (λ (n : ℕ). grid f n c) e ∙ grid_zero f c C)
floor_of f u P c l C r t (inr h) = inr (le_trans (above_floor f P c l C h) (le_of_eq (sym (plus_is f u P c C r t))))

sum_floor : (i a b U : ℕ) → Floor i a → Floor i b → (a + b ≡ 0) ⊎ (2 ^ i * U ≤ (a + b) * U)
sum_floor i a b U (inl e) (inl h) = inl (omega arith)
sum_floor i a b U (inl e) (inr h) = inr (mul-le-mul_right U (le_trans h (le-add_left b a)))
sum_floor i a b U (inr e) h = inr (mul-le-mul_right U (le_trans e (le-add_right a b)))

pub lost : (z W l D : ℕ) → (z + l) * D ≤ (W + 0) * D + z → z * D ≤ W * D + z
lost z W l D h = omega arith

-- ---- LAW 5: a sum
sum_step : (D k S w v W px lx py ly pz lz ax ux ay uy az uz : ℕ) → Gap D (w + v) pz lz (px + py) (lx + ly) → Gap D (2 * k * (w * S)) (px * S) (lx * S) ax ux → Gap D (2 * k * (v * S)) (py * S) (ly * S) ay uy
    → az + (ux + uy) ≡ uz + (ax + ay) → w + v + 2 * k * (w + v) ≤ 2 * suc k * W → Gap D (2 * suc k * (W * S)) (pz * S) (lz * S) az uz
sum_step D k S w v W px lx py ly pz lz ax ux ay uy az uz g gx gy e h =
    let b : (w + v + 2 * k * (w + v)) * S ≤ 2 * suc k * W * S = mul-le-mul_right S h in
    let c : px * S + py * S + (lx + ly) * S ≡ (px + py) * S + (lx * S + ly * S) = omega arith in
    let d : ax + ay + uz ≡ az + (ux + uy) = omega arith in
    let b' : (w + v) * S + (2 * k * (w * S) + 2 * k * (v * S)) ≤ 2 * suc k * (W * S) = omega arith in
    gap_weaken (2 * suc k * (W * S)) b' (gap_other az uz d (gap_trans (gap_times S g) (gap_first ((px + py) * S) ((lx + ly) * S) c (gap_add gx gy))))

module _ (f : Format) (k S i : ℕ) (x w y v : Float) (X Y : ℤ) (few : 2 * k + 2 ≤ 2 ^ prec f) (m : Near f k S i x w X) (n : Near f k S i y v Y) where
  add_close : T (finite (add f w v)) → Close f (suc k) S i (add f x y) (add f w v) (X +ℤ Y)
  add_close t =
      let D = 2 ^ prec f in
      let j = add_finite f w v t in
      let c = m.close j.0 in
      let d = n.close j.1 in
      let s = add_smaller f x y w v m.fits_x n.fits_x m.fits_w n.fits_w t c.is_finite d.is_finite c.no_less d.no_less c.within d.within in
      let r = add_pos_is f w v m.fits_w n.fits_w j.0 j.1 c.no_less d.no_less in
      let z = plus f w + plus f v in
      let hx = c.within in
      let hy = d.within in
      let g = sum_gap f (add f x y) (plus f x + plus f y) (less f x + less f y) z (add_is f x y m.fits_x n.fits_x c.is_finite d.is_finite) s.is_finite (omega arith) (omega arith) in
      let l : z * D ≤ plus f (add f w v) * D + z = lost z (plus f (add f w v)) (less f (add f w v)) D (sum_gap f (add f w v) z 0 z r t (le-add_left z 0) zero-le).under in
      record {
        is_finite = s.is_finite;
        no_less = s.no_less;
        within = s.within;
        gap =
            sum_step D k S (plus f w) (plus f v) (plus f (add f w v)) (plus f x) (less f x) (plus f y) (less f y) (plus f (add f x y)) (less f (add f x y)) (above X) (under X) (above Y) (under Y) (above (X +ℤ Y)) (under (X +ℤ Y))
            g c.gap d.gap (add_parts X Y) (slack k z (plus f (add f w v)) D (pow_pos (prec f)) l few);
        floor = floor_of f (add f w v) z (2 ^ low f) i (pow_pos (low f)) r t (sum_floor i (plus f w) (plus f v) (2 ^ low f) c.floor d.floor);
      }

  pub near_add : Near f (suc k) S i (add f x y) (add f w v) (X +ℤ Y)
  near_add = record { fits_x = add-fits f x y; fits_w = add-fits f w v; close = add_close }

-- ---- LAW 5: a product
-- the exact integer's size, by the computed one
pub exact_le : (X : ℤ) (D B p q : ℕ) → Gap D B p q (above X) (under X) → (above X + under X) * D ≤ (p + q) * D + B
exact_le (pos n) D B p q g = omega arith
exact_le (negsuc n) D B p q g = omega arith

-- the three errors together are at most k + h + 1 steps of the rounded W
product_slack : (k h D z T W A B : ℕ) → 0 < D → z * D ≤ W * D + z → 2 * suc (k + h) + 4 * (k * h) ≤ D → A ≤ 2 * k * (z * T) → B * D ≤ 2 * h * (z * T) * (D + 2 * k) → z * T + (A + B) ≤ 2 * suc (k + h) * (W * T)
product_slack k h D z T W A B P l few a b =
    let f1 : z * D * (2 * suc (k + h) * T) ≤ (W * D + z) * (2 * suc (k + h) * T) = mul-le-mul_right (2 * suc (k + h) * T) l in
    let f2 : (2 * suc (k + h) + 4 * (k * h)) * (z * T) ≤ D * (z * T) = mul-le-mul_right (z * T) few in
    let f3 : A * D ≤ 2 * k * (z * T) * D = mul-le-mul_right D a in
    let c : (z * T + (A + B)) * D ≤ 2 * suc (k + h) * (W * T) * D = omega arith in
    le_of_mul-le-mul_right c P

first_error : (k w S r s R v : ℕ) → r + s ≤ v → 2 * k * (w * S) * (r * R + s * R) ≤ 2 * k * (w * v * (S * R))
first_error k w S r s R v h = let m : (r + s) * (2 * k * (w * S) * R) ≤ v * (2 * k * (w * S) * R) = mul-le-mul_right (2 * k * (w * S) * R) h in omega arith

second_error : (k h D w S R v p q X : ℕ) → p + q ≤ w → X * D ≤ (p * S + q * S) * D + 2 * k * (w * S) → 2 * h * (v * R) * X * D ≤ 2 * h * (w * v * (S * R)) * (D + 2 * k)
second_error k h D w S R v p q X l e =
    let m : (p + q) * (S * D * (2 * h * (v * R))) ≤ w * (S * D * (2 * h * (v * R))) = mul-le-mul_right (S * D * (2 * h * (v * R))) l in
    let n : X * D * (2 * h * (v * R)) ≤ ((p * S + q * S) * D + 2 * k * (w * S)) * (2 * h * (v * R)) = mul-le-mul_right (2 * h * (v * R)) e in
    omega arith

module _ (D k h S R U w v W p q r s pz lz ax ux ay uy az uz : ℕ) where
  product_step : 0 < D → Gap D (w * v) (pz * U) (lz * U) (p * r + q * s) (p * s + q * r) → Gap D (2 * k * (w * S)) (p * S) (q * S) ax ux → Gap D (2 * h * (v * R)) (r * R) (s * R) ay uy
      → p + q ≤ w → r + s ≤ v → (ax + ux) * D ≤ (p * S + q * S) * D + 2 * k * (w * S) → az + (ax * uy + ux * ay) ≡ uz + (ax * ay + ux * uy)
      → w * v * D ≤ W * U * D + w * v → 2 * suc (k + h) + 4 * (k * h) ≤ D → Gap D (2 * suc (k + h) * (W * (S * R * U))) (pz * (S * R * U)) (lz * (S * R * U)) az uz
  product_step P g gx gy hx hy ex e l few =
      let c1 : pz * U * (S * R) + lz * (S * R * U) ≡ pz * (S * R * U) + lz * U * (S * R) = omega arith in
      let c2 : p * S * (r * R) + q * S * (s * R) + (p * s + q * r) * (S * R) ≡ (p * r + q * s) * (S * R) + (p * S * (s * R) + q * S * (r * R)) = omega arith in
      let c3 : r * R * ax + s * R * ux + (ax * (s * R) + ux * (r * R)) ≡ ax * (r * R) + ux * (s * R) + (r * R * ux + s * R * ax) = omega arith in
      let c4 : ay * ax + uy * ux + uz ≡ az + (ay * ux + uy * ax) = omega arith in
      let b : w * v * (S * R) + (2 * k * (w * S) * (r * R + s * R) + 2 * h * (v * R) * (ax + ux)) ≤ 2 * suc (k + h) * (W * U * (S * R)) =
      product_slack k h D (w * v) (S * R) (W * U) (2 * k * (w * S) * (r * R + s * R)) (2 * h * (v * R) * (ax + ux)) P l few (first_error k w S r s R v hy) (second_error k h D w S R v p q (ax + ux) hx ex) in
      let b' : 2 * suc (k + h) * (W * U * (S * R)) ≡ 2 * suc (k + h) * (W * (S * R * U)) = omega arith in
      gap_weaken (2 * suc (k + h) * (W * (S * R * U))) (le_trans b (le_of_eq b'))
      (gap_first (pz * (S * R * U)) (lz * (S * R * U)) c1
      (gap_other az uz c4
      (gap_trans (gap_times (S * R) g)
      (gap_trans (gap_first ((p * r + q * s) * (S * R)) ((p * s + q * r) * (S * R)) c2 (gap_mul (r * R) (s * R) gx))
      (gap_first (ax * (r * R) + ux * (s * R)) (ax * (s * R) + ux * (r * R)) c3 (gap_mul ax ux gy))))))

-- the product of the two floors is 2 ^ l units at least, and that is in the normal range
product_floor : (f : Format) (i j l w v : ℕ) → l + low f ≡ i + j → Floor i w → Floor j v → (w * v ≡ 0) ⊎ (2 ^ l * 2 ^ low f ≤ w * v)
product_floor f i j l w v e (inl a) b = inl (ap (λ (n : ℕ). n * v) a ∙ zero-mul v)
product_floor f i j l w v e (inr a) (inl b) = inl (ap (λ (n : ℕ). w * n) b ∙ mul-zero w)
product_floor f i j l w v e (inr a) (inr b) = inr (le_trans (le_of_eq (sym (pow-add 2 l (low f)) ∙ ap (λ (n : ℕ). 2 ^ n) e ∙ pow-add 2 i j)) (mul-le-mul a b))

normal : (f : Format) (l z : ℕ) → prec f - 1 ≤ l → (z ≡ 0) ⊎ (2 ^ l * 2 ^ low f ≤ z) → Normal f z
normal f l z h (inl e) = inl e
normal f l z h (inr e) = inr (le_trans (mul-le-mul_right (2 ^ low f) (pow_mono h)) e)

in_units : (l U z : ℕ) → (z ≡ 0) ⊎ (2 ^ l * U ≤ z) → (z ≡ 0) ⊎ (2 ^ l * (U * U) ≤ z * U)
in_units l U z (inl e) = inl e
in_units l U z (inr e) = inr (le_trans (le_of_eq (sym (mul_assoc (2 ^ l) U U))) (mul-le-mul_right U e))

module _ (f : Format) (k h S R i j l : ℕ) (x w y v : Float) (X Y : ℤ) (few : 2 * suc (k + h) + 4 * (k * h) ≤ 2 ^ prec f) (high : prec f - 1 ≤ l) (floors : l + low f ≡ i + j)
    (m : Near f k S i x w X) (n : Near f h R j y v Y) where
  mul_close : T (finite (mul f w v)) → Close f (suc (k + h)) (S * R * 2 ^ low f) l (mul f x y) (mul f w v) (X *ℤ Y)
  mul_close t =
      let D = 2 ^ prec f in
      let U = 2 ^ low f in
      let o = mul_finite f w v t in
      let c = m.close o.0 in
      let d = n.close o.1 in
      let s = mul_smaller f x y w v m.fits_x n.fits_x m.fits_w n.fits_w t c.is_finite d.is_finite c.no_less d.no_less c.within d.within in
      let r = mul_pos_is f w v m.fits_w n.fits_w o.0 o.1 c.no_less d.no_less in
      let z = plus f w * plus f v in
      let p = plus f x * plus f y + less f x * less f y in
      let q = plus f x * less f y + less f x * plus f y in
      let b = product_floor f i j l (plus f w) (plus f v) floors c.floor d.floor in
      let a = spread (plus f x) (less f x) (plus f y) (less f y) (plus f w) (plus f v) c.within d.within in
      let g = product_gap f (mul f x y) p q z (mul_is f x y m.fits_x n.fits_x c.is_finite d.is_finite) s.is_finite (left p q z a) (right p q z a) (normal f l z high b) in
      let e : z * D ≤ plus f (mul f w v) * U * D + z = lost z (plus f (mul f w v) * U) (less f (mul f w v) * U) D (product_gap f (mul f w v) z 0 z r t (le-add_left z 0) zero-le (normal f l z high b)).under in
      record {
        is_finite = s.is_finite;
        no_less = s.no_less;
        within = s.within;
        gap =
            product_step D k h S R U (plus f w) (plus f v) (plus f (mul f w v)) (plus f x) (less f x) (plus f y) (less f y) (plus f (mul f x y)) (less f (mul f x y)) (above X) (under X) (above Y) (under Y) (above (X *ℤ Y)) (under (X *ℤ Y))
            (pow_pos (prec f)) g c.gap d.gap c.within d.within (exact_le X D (2 * k * (plus f w * S)) (plus f x * S) (less f x * S) c.gap) (mul_parts X Y) e few;
        floor = floor_of f (mul f w v) z (U * U) l (mul-pos (pow_pos (low f)) (pow_pos (low f))) r t (in_units l U z b);
      }
    where
      left : (p q z : ℕ) → p + q ≤ z → p ≤ q + z
      left p q z h = omega arith

      right : (p q z : ℕ) → p + q ≤ z → q ≤ p + z
      right p q z h = omega arith

  pub near_mul : Near f (suc (k + h)) (S * R * 2 ^ low f) l (mul f x y) (mul f w v) (X *ℤ Y)
  near_mul = record { fits_x = mul-fits f x y; fits_w = mul-fits f w v; close = mul_close }

-- ---- the rest of the calculus
-- an exact input, and its absolute value
pub near_input : (f : Format) (i : ℕ) (b a : Float) → T (fits f b) → T (fits f a) → T (finite b) → plus f a ≡ plus f b + less f b → less f a ≡ 0 → Floor i (plus f a) → Near f 0 1 i b a (val f b)
near_input f i b a fb fa t e z l = record {
  fits_x = fb;
  fits_w = fa;
  close = λ u. record { is_finite = t; no_less = z; within = le_of_eq (sym e); gap = gap_is; floor = l };
}
  where
    same : (D B p q a u : ℕ) → a ≡ p → u ≡ q → Gap D B (p * 1) (q * 1) a u
    same D B p q a u e h = let x : a * D ≡ p * D = ap (λ (n : ℕ). n * D) e in let y : u * D ≡ q * D = ap (λ (n : ℕ). n * D) h in record { over = omega arith; under = omega arith }

    gap_is : Gap (2 ^ prec f) (2 * 0 * (plus f a * 1)) (plus f b * 1) (less f b * 1) (above (val f b)) (under (val f b))
    gap_is = same (2 ^ prec f) (2 * 0 * (plus f a * 1)) (plus f b) (less f b) (above (val f b)) (under (val f b)) (val_above f b) (val_under f b)

-- more steps of error, and a lower floor
pub near_weaken : (f : Format) (k h S i j : ℕ) (x w : Float) (X : ℤ) → k ≤ h → j ≤ i → Near f k S i x w X → Near f h S j x w X
near_weaken f k h S i j x w X l g m = record {
  fits_x = m.fits_x;
  fits_w = m.fits_w;
  close = λ t. let c = m.close t in record {
    is_finite = c.is_finite;
    no_less = c.no_less;
    within = c.within;
    gap = gap_weaken (2 * h * (plus f w * S)) (mul-le-mul_right (plus f w * S) (mul-le-mul_left 2 l)) c.gap;
    floor = lower (plus f w) c.floor;
  };
}
  where
    lower : (n : ℕ) → Floor i n → Floor j n
    lower n (inl e) = inl e
    lower n (inr e) = inr (le_trans (pow_mono g) e)

pub near_neg : (f : Format) (k S i : ℕ) (x w : Float) (X : ℤ) → Near f k S i x w X → Near f k S i (neg x) w (neg_ℤ X)
near_neg f k S i x w X m = record {
  fits_x = neg-fits f x m.fits_x;
  fits_w = m.fits_w;
  close = λ t. let c = m.close t in let p = neg_parts f x in let a = p.is_plus in let b = p.is_less in let e = c.within in record {
    is_finite = neg_finite x c.is_finite;
    no_less = c.no_less;
    within = omega arith;
    gap = turned (2 ^ prec f) (2 * k * (plus f w * S)) (plus f (neg x)) (less f (neg x)) (plus f x) (less f x) (above X) (under X) (above (neg_ℤ X)) (under (neg_ℤ X)) a b (neg_above X) (neg_under X) c.gap;
    floor = c.floor;
  };
}
  where
    turned : (D B p q p' q' a u a' u' : ℕ) → p ≡ q' → q ≡ p' → a' ≡ u → u' ≡ a → Gap D B (p' * S) (q' * S) a u → Gap D B (p * S) (q * S) a' u'
    turned D B p q p' q' a u a' u' e h c d g =
        let x : p * S ≡ q' * S = ap (λ (n : ℕ). n * S) e in
        let y : q * S ≡ p' * S = ap (λ (n : ℕ). n * S) h in
        gap_first (p * S) (q * S) (omega arith) (gap_other a' u' (omega arith) (gap_swap g))

pub near_sub : (f : Format) (k S i : ℕ) (x w y v : Float) (X Y : ℤ) → 2 * k + 2 ≤ 2 ^ prec f → Near f k S i x w X → Near f k S i y v Y → Near f (suc k) S i (sub f x y) (add f w v) (X -ℤ Y)
unfolding sub
near_sub f k S i x w y v X Y few m n = near_add f k S i x w (neg y) v X (neg_ℤ Y) few m (near_neg f k S i y v Y n)

-- to a finer scale, where terms of another degree are added
pub near_scale : (f : Format) (k S i R : ℕ) (x w : Float) (X : ℤ) → Near f k S i x w X → Near f k (S * R) i x w (X *ℤ pos R)
near_scale f k S i R x w X m = record {
  fits_x = m.fits_x;
  fits_w = m.fits_w;
  close = λ t. let c = m.close t in record {
    is_finite = c.is_finite;
    no_less = c.no_less;
    within = c.within;
    gap = finer (2 ^ prec f) (plus f w) (plus f x) (less f x) (above X) (under X) (above (X *ℤ pos R)) (under (X *ℤ pos R)) (mul_parts X (pos R)) c.gap;
    floor = c.floor;
  };
}
  where
    finer : (D w p q a u a' u' : ℕ) → a' + (a * 0 + u * R) ≡ u' + (a * R + u * 0) → Gap D (2 * k * (w * S)) (p * S) (q * S) a u → Gap D (2 * k * (w * (S * R))) (p * (S * R)) (q * (S * R)) a' u'
    finer D w p q a u a' u' e g =
        let x : 2 * k * (w * S) * R ≤ 2 * k * (w * (S * R)) = omega arith in
        let y : p * S * R + q * (S * R) ≡ p * (S * R) + q * S * R = omega arith in
        let z : a * R + u' ≡ a' + u * R = omega arith in
        gap_weaken (2 * k * (w * (S * R))) x (gap_first (p * (S * R)) (q * (S * R)) y (gap_other a' u' z (gap_times R g)))

-- what it says in the end, with absolute values of integers
pub near→abs : (f : Format) (k S i : ℕ) (x w : Float) (X : ℤ) → Near f k S i x w X → T (finite w) → nat_abs (val f x *ℤ pos S -ℤ X) * 2 ^ prec f ≤ 2 * k * (plus f w * S)
near→abs f k S i x w X m t =
    let c = m.close t in
    let R = val f x *ℤ pos S in
    let r = times_parts f x S in
    let e : plus f x * S + under R ≡ above R + less f x * S = omega arith in
    gap→abs (2 ^ prec f) (2 * k * (plus f w * S)) R X (gap_first (above R) (under R) e c.gap)
