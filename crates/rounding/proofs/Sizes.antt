-- The same operation on sizes gives a result that is no smaller: where it is finite, so is the result. Assumes nothing.
use Prim.Native.Nat.{◌*◌, ◌+◌, ◌-◌, ◌<◌, ◌^◌, ◌≤◌, ℕ}
use mathlib.Core.Logic.{◌⊎◌, inl, inr}
use mathlib.Core.Path.{◌∙◌, ◌≡◌, ap, subst, sym}
use native.Mathlib.Nat.{le_of_eq, lt_of_le_of_lt, mul-le-mul, mul-le-mul_right, mul-pos, mul-zero, zero-mul}
use native.Mathlib.Omega.{arith}
use lib.Dec.{T}
use lib.Ieee.{Float, Format, add, fits, low, mul}
use lib.Ieee.Scale.{finite, grid, overflow}
use lib.Pow.{pow_pos}
use Rattle.rounding.proofs.Grid.{grid_mono, grid_zero}
use Rattle.rounding.proofs.Parts.{Parts, one_side}
use Rattle.rounding.proofs.Rounded.{Rounded, add_finite, add_is, downward, mul_finite, mul_is, rounded_finite, rounded_parts, rounded_under, upward}
use Rattle.rounding.specs.Value.{less, plus}

-- ---- LAW 4: u is p / c rounded, and z is a difference of two that are no more than p. Then z is finite if u is, and no larger.
pub record Smaller (f : Format) (z u : Float) : Type 0 where
  pub is_finite : T (finite z)
  pub no_less : less f u ≡ 0
  pub within : plus f z + less f z ≤ plus f u

module _ (f : Format) (z u : Float) (p q P c : ℕ) (C : 0 < c) (r : Rounded f z p q c) (s : Rounded f u P 0 c) (hp : p ≤ P) (hq : q ≤ P) (t : T (finite u)) where
  by_grid : (n : ℕ) → n ≤ P → grid f n c ≤ grid f P c
  by_grid n h = grid_mono f n c P c C C (mul-le-mul_right c h)

  of_u : Parts f u (grid f P c) 0
  of_u =
      let v = rounded_parts f u P 0 c C s t in
      let e : P - 0 ≡ P = omega arith in
      let g : 0 - P ≡ 0 = omega arith in
      record { is_plus = v.is_plus ∙ ap (λ (n : ℕ). grid f n c) e; is_less = v.is_less ∙ ap (λ (n : ℕ). grid f n c) g ∙ grid_zero f c C }

  together : Rounded f z p q c → grid f (p - q) c + grid f (q - p) c ≤ grid f P c
  together (upward l e) =
      let g : grid f (q - p) c ≡ 0 = ap (λ (n : ℕ). grid f n c) (gone p q l) ∙ grid_zero f c C in
      let h : grid f (p - q) c ≤ grid f P c = by_grid (p - q) (omega arith) in
      omega arith
    where
      gone : (p q : ℕ) → q ≤ p → q - p ≡ 0
      gone p q h = omega arith
  together (downward l e) =
      let g : grid f (p - q) c ≡ 0 = ap (λ (n : ℕ). grid f n c) (gone p q l) ∙ grid_zero f c C in
      let h : grid f (q - p) c ≤ grid f P c = by_grid (q - p) (omega arith) in
      omega arith
    where
      gone : (p q : ℕ) → p ≤ q → p - q ≡ 0
      gone p q h = omega arith

  pub smaller : Smaller f z u
  smaller =
      let top : grid f P c < overflow f = rounded_under f u P c C s t in
      let i : T (finite z) = rounded_finite f z p q c r (lt_of_le_of_lt (by_grid (p - q) (omega arith)) top) (lt_of_le_of_lt (by_grid (q - p) (omega arith)) top) in
      let v = rounded_parts f z p q c C r i in
      let a = v.is_plus in
      let b = v.is_less in
      let d = of_u.is_plus in
      let g = together r in
      record { is_finite = i; no_less = of_u.is_less; within = omega arith }

pub add_smaller : (f : Format) (x y w v : Float) → T (fits f x) → T (fits f y) → T (fits f w) → T (fits f v) → T (finite (add f w v)) → T (finite x) → T (finite y)
    → less f w ≡ 0 → less f v ≡ 0 → plus f x + less f x ≤ plus f w → plus f y + less f y ≤ plus f v → Smaller f (add f x y) (add f w v)
add_smaller f x y w v fx fy fw fv t i j nw nv hx hy =
    let k = add_finite f w v t in
    smaller f (add f x y) (add f w v) (plus f x + plus f y) (less f x + less f y) (plus f w + plus f v) (2 ^ low f) (pow_pos (low f)) (add_is f x y fx fy i j)
    (subst (λ (n : ℕ). Rounded f (add f w v) (plus f w + plus f v) n (2 ^ low f)) (omega arith) (add_is f w v fw fv k.0 k.1))
    (omega arith) (omega arith) t

pub plus_is : (f : Format) (u : Float) (P c : ℕ) → 0 < c → Rounded f u P 0 c → T (finite u) → plus f u ≡ grid f P c
plus_is f u P c C r t = let e : P - 0 ≡ P = omega arith in (rounded_parts f u P 0 c C r t).is_plus ∙ ap (λ (n : ℕ). grid f n c) e

prod_up : (a b c d : ℕ) → c ≡ 0 → a * b + c * d ≡ a * b
prod_up a b c d e = let z : c * d ≡ 0 = ap (λ (n : ℕ). n * d) e ∙ zero-mul d in omega arith

prod_down : (a b c d : ℕ) → c ≡ 0 → d ≡ 0 → a * d + c * b ≡ 0
prod_down a b c d e h = let z : c * b ≡ 0 = ap (λ (n : ℕ). n * b) e ∙ zero-mul b in let y : a * d ≡ 0 = ap (λ (n : ℕ). a * n) h ∙ mul-zero a in omega arith

-- the product of two that are not negative
pub mul_pos_is : (f : Format) (w v : Float) → T (fits f w) → T (fits f v) → T (finite w) → T (finite v) → less f w ≡ 0 → less f v ≡ 0 → Rounded f (mul f w v) (plus f w * plus f v) 0 (2 ^ low f * 2 ^ low f)
mul_pos_is f w v fw fv i j nw nv =
    let U = 2 ^ low f in
    subst (λ (n : ℕ). Rounded f (mul f w v) n 0 (U * U)) (prod_up (plus f w) (plus f v) (less f w) (less f v) nw)
    (subst (λ (n : ℕ). Rounded f (mul f w v) (plus f w * plus f v + less f w * less f v) n (U * U)) (prod_down (plus f w) (plus f v) (less f w) (less f v) nw nv) (mul_is f w v fw fv i j))

pub add_pos_is : (f : Format) (w v : Float) → T (fits f w) → T (fits f v) → T (finite w) → T (finite v) → less f w ≡ 0 → less f v ≡ 0 → Rounded f (add f w v) (plus f w + plus f v) 0 (2 ^ low f)
add_pos_is f w v fw fv i j nw nv = subst (λ (n : ℕ). Rounded f (add f w v) (plus f w + plus f v) n (2 ^ low f)) (omega arith) (add_is f w v fw fv i j)

-- all four products of parts are no more than the product of the sizes
pub spread : (p q r s w v : ℕ) → p + q ≤ w → r + s ≤ v → p * r + q * s + (p * s + q * r) ≤ w * v
spread p q r s w v h k = let m : (p + q) * (r + s) ≤ w * v = mul-le-mul h k in omega arith

pub mul_smaller : (f : Format) (x y w v : Float) → T (fits f x) → T (fits f y) → T (fits f w) → T (fits f v) → T (finite (mul f w v)) → T (finite x) → T (finite y)
    → less f w ≡ 0 → less f v ≡ 0 → plus f x + less f x ≤ plus f w → plus f y + less f y ≤ plus f v → Smaller f (mul f x y) (mul f w v)
mul_smaller f x y w v fx fy fw fv t i j nw nv hx hy =
    let k = mul_finite f w v t in
    let U = 2 ^ low f in
    let h = spread (plus f x) (less f x) (plus f y) (less f y) (plus f w) (plus f v) hx hy in
    smaller f (mul f x y) (mul f w v) (plus f x * plus f y + less f x * less f y) (plus f x * less f y + less f x * plus f y) (plus f w * plus f v) (U * U) (mul-pos (pow_pos (low f)) (pow_pos (low f)))
    (mul_is f x y fx fy i j) (mul_pos_is f w v fw fv k.0 k.1 nw nv) (omega arith) (omega arith) t

-- with |x| and |y| for w and v the product is of the same size
one_product : (p q r s : ℕ) → (p ≡ 0) ⊎ (q ≡ 0) → (r ≡ 0) ⊎ (s ≡ 0) → (p * r + q * s ≡ 0) ⊎ (p * s + q * r ≡ 0)
one_product p q r s (inl e) (inl h) = inr (gone p q s r e h)
  where
    gone : (p q s r : ℕ) → p ≡ 0 → r ≡ 0 → p * s + q * r ≡ 0
    gone p q s r e h = let x : p * s ≡ 0 = ap (λ (n : ℕ). n * s) e ∙ zero-mul s in let y : q * r ≡ 0 = ap (λ (n : ℕ). q * n) h ∙ mul-zero q in omega arith
one_product p q r s (inl e) (inr h) = inl (gone p q r s e h)
  where
    gone : (p q r s : ℕ) → p ≡ 0 → s ≡ 0 → p * r + q * s ≡ 0
    gone p q r s e h = let x : p * r ≡ 0 = ap (λ (n : ℕ). n * r) e ∙ zero-mul r in let y : q * s ≡ 0 = ap (λ (n : ℕ). q * n) h ∙ mul-zero q in omega arith
one_product p q r s (inr e) (inl h) = inl (gone p q r s e h)
  where
    gone : (p q r s : ℕ) → q ≡ 0 → r ≡ 0 → p * r + q * s ≡ 0
    gone p q r s e h = let x : q * s ≡ 0 = ap (λ (n : ℕ). n * s) e ∙ zero-mul s in let y : p * r ≡ 0 = ap (λ (n : ℕ). p * n) h ∙ mul-zero p in omega arith
one_product p q r s (inr e) (inr h) = inr (gone p q r s e h)
  where
    gone : (p q r s : ℕ) → q ≡ 0 → s ≡ 0 → p * s + q * r ≡ 0
    gone p q r s e h = let x : q * r ≡ 0 = ap (λ (n : ℕ). n * r) e ∙ zero-mul r in let y : p * s ≡ 0 = ap (λ (n : ℕ). p * n) h ∙ mul-zero p in omega arith

apart : (f : Format) (p q c : ℕ) → 0 < c → (p ≡ 0) ⊎ (q ≡ 0) → grid f (p - q) c + grid f (q - p) c ≡ grid f (p + q) c
apart f p q c C (inl e) =
    let a : p - q ≡ 0 = omega arith in
    let b : q - p ≡ p + q = omega arith in
    let x : grid f (p - q) c ≡ 0 = ap (λ (n : ℕ). grid f n c) a ∙ grid_zero f c C in
    let y : grid f (q - p) c ≡ grid f (p + q) c = ap (λ (n : ℕ). grid f n c) b in
    omega arith
apart f p q c C (inr e) =
    let a : q - p ≡ 0 = omega arith in
    let b : p - q ≡ p + q = omega arith in
    let x : grid f (q - p) c ≡ 0 = ap (λ (n : ℕ). grid f n c) a ∙ grid_zero f c C in
    let y : grid f (p - q) c ≡ grid f (p + q) c = ap (λ (n : ℕ). grid f n c) b in
    omega arith

pub mul_same_size : (f : Format) (x y w v : Float) → T (fits f x) → T (fits f y) → T (fits f w) → T (fits f v) → T (finite x) → T (finite y) → T (finite (mul f w v))
    → Parts f w (plus f x + less f x) 0 → Parts f v (plus f y + less f y) 0 → plus f (mul f x y) + less f (mul f x y) ≡ plus f (mul f w v)
mul_same_size f x y w v fx fy fw fv i j t pw pv =
    let U = 2 ^ low f in
    let C : 0 < U * U = mul-pos (pow_pos (low f)) (pow_pos (low f)) in
    let k = mul_finite f w v t in
    let p = plus f x * plus f y + less f x * less f y in
    let q = plus f x * less f y + less f x * plus f y in
    let s = mul_smaller f x y w v fx fy fw fv t i j pw.is_less pv.is_less (le_of_eq (sym pw.is_plus)) (le_of_eq (sym pv.is_plus)) in
    let r = rounded_parts f (mul f x y) p q (U * U) C (mul_is f x y fx fy i j) s.is_finite in
    let e : plus f (mul f w v) ≡ grid f (plus f w * plus f v) (U * U) = plus_is f (mul f w v) (plus f w * plus f v) (U * U) C (mul_pos_is f w v fw fv k.0 k.1 pw.is_less pv.is_less) t in
    let z = one_product (plus f x) (less f x) (plus f y) (less f y) (one_side f x) (one_side f y) in
    sum_up (plus f (mul f x y)) (less f (mul f x y)) (grid f (p - q) (U * U)) (grid f (q - p) (U * U)) (grid f (p + q) (U * U)) r.is_plus r.is_less (apart f p q (U * U) C z)
    ∙ ap (λ (n : ℕ). grid f n (U * U)) (all (plus f x) (less f x) (plus f y) (less f y) ∙ ap (λ (n : ℕ). n * (plus f y + less f y)) (sym pw.is_plus) ∙ ap (λ (n : ℕ). plus f w * n) (sym pv.is_plus)) ∙ sym e
  where
    sum_up : (a b c d e : ℕ) → a ≡ c → b ≡ d → c + d ≡ e → a + b ≡ e
    sum_up a b c d e g h k = omega arith

    all : (p q r s : ℕ) → p * r + q * s + (p * s + q * r) ≡ (p + q) * (r + s)
    all p q r s = omega arith
