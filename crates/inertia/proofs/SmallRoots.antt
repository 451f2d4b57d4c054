-- What is at most 1 stays so under rounding, division by something larger, subtraction of what is not negative, and the root. Generic in the format. Assumes nothing.
use Prim.Native.Nat.{ℕ, zero, suc, ◌+◌, ◌-◌, ◌*◌, ◌/◌, ◌^◌, ◌<◌, ◌≤◌, zero-le}
use mathlib.Core.Path.{◌≡◌, refl, sym, ap, ◌∙◌}
use mathlib.Core.Bool.{Bool, true, false, cond, true≢false}
use native.Mathlib.Nat.{mul-pos, mul_comm, mul-one, one-mul, mul-le-mul, mul-le-mul_right, le_of_mul-le-mul_right, le_of_eq, le_trans, lt_of_not-le, not-le_of_lt, lt_of_lt_of_le, div-mul-le_self, zero-lt-suc}
use native.Mathlib.Omega.{arith}
use borrow.Author.Tests.{leb-true, eqb-false}
use lib.Dec.{T, leb, eqb}
use lib.IntN.{ℤ}
use lib.Pow.{pow_pos, pow_mono, pow-lt}
use lib.Ieee.{Float, nan, inf, fin, Format, low, prec, emax, size, up, down, unlike, round, add, sub, neg, mul, div, fits}
use lib.Ieee.Exact.{HasValue}
use lib.Ieee.Fits.{up_pos, down_pos, two, two-le_pos, neg-fits}
use lib.Ieee.Scale.{finite, grid, overflow}
use lib.Ieee.Positive.{num, den}
use Rattle.binary64.specs.Units.{units_of}
use Rattle.binary64.specs.SquareRoot.{radicand, whole_root_by, whole_root, twice_root, square_root}
use Rattle.rounding.specs.Value.{plus, less}
use Rattle.rounding.proofs.Grid.{grid_mono, grid_exact, grid_zero}
use Rattle.rounding.proofs.Parts.{round_val, round_parts, neg_parts}
use Rattle.rounding.proofs.Rounded.{add_finite, add_is, rounded_parts}
use Rattle.inertia.proofs.Signs.{AtMostOne}

-- ---- rounding
-- 1 is rounded to itself
grid_one : (f : Format) → grid f 1 1 ≡ 2 ^ low f
grid_one f = grid_exact f 1 1 1 (low f) (zero-lt-suc 0) (pow_mono (two-le_pos (prec f) (two f))) (sym (mul-one (1 * 2 ^ low f))) ∙ one-mul (2 ^ low f)

grid_most : (f : Format) (a c : ℕ) → 0 < c → a ≤ c → grid f a c ≤ 2 ^ low f
grid_most f a c C h = le_trans (grid_mono f a c 1 1 C (zero-lt-suc 0) (le_trans (le_of_eq (mul-one a)) (le_trans h (le_of_eq (sym (one-mul c)))))) (le_of_eq (grid_one f))

grid_below : (f : Format) (a c : ℕ) → 0 < c → a ≤ c → grid f a c < overflow f
grid_below f a c C h = below (grid_most f a c C h) (pow-lt (more (low f) (emax f)))
  where
    more : (l e : ℕ) → l < l + suc e
    more l e = omega arith

    below : {g u o : ℕ} → g ≤ u → u < o → g < o
    below h l = omega arith

pub round_most : (f : Format) (a c : ℕ) → 0 < c → a ≤ c → AtMostOne (round f false a c)
round_most f a c C h = go (round f false a c) (round_val f false a c (grid_below f a c C h))
  where
    go : (z : Float) → HasValue z false (grid f a c) (2 ^ low f) → AtMostOne z
    go nan v = absurd v
    go (inf s) v = absurd v
    go (fin true m e) v = absurd (true≢false v.0)
    go (fin false m e) v =
        let most = le_trans (mul-le-mul_right (down e) (grid_most f a c C h)) (le_of_eq (mul_comm (2 ^ low f) (down e))) in
        record { digits = m; power = e; is = refl; most = le_of_mul-le-mul_right (le_trans (le_of_eq v.1) most) (pow_pos (low f)) }

-- what is not finite counts as no units
nothing : (f : Format) (z : Float) → finite z ≡ false → (plus f z ≡ 0) × (less f z ≡ 0)
unfolding plus less
nothing f nan e = (refl, refl)
nothing f (inf s) e = (refl, refl)
nothing f (fin s m k) e = absurd (true≢false e)

-- the part above zero of what is rounded, whatever its sign
round_plus_most : (f : Format) (s : Bool) (a c : ℕ) → 0 < c → a ≤ c → plus f (round f s a c) ≤ 2 ^ low f
round_plus_most f s a c C h = go (finite (round f s a c)) refl
  where
    under : (s : Bool) (g u : ℕ) → g ≤ u → cond s 0 g ≤ u
    under true g u h = zero-le
    under false g u h = h

    go : (b : Bool) → finite (round f s a c) ≡ b → plus f (round f s a c) ≤ 2 ^ low f
    go true e = le_trans (le_of_eq (round_parts f s a c (rw e tt)).is_plus) (under s (grid f a c) (2 ^ low f) (grid_most f a c C h))
    go false e = le_trans (le_of_eq (nothing f (round f s a c) e).0) zero-le

-- ---- the whole root of at most U * U is at most U
root_under : (d v : ℕ) → whole_root_by d v * whole_root_by d v ≤ v
unfolding whole_root_by
root_under zero v = zero-le
root_under (suc d) v = go (whole_root_by d (v / 4)) (root_under d (v / 4)) (leb ((2 * whole_root_by d (v / 4) + 1) * (2 * whole_root_by d (v / 4) + 1)) v) refl
  where
    quarter : (s q : ℕ) → s * s ≤ q → q * 4 ≤ v → 2 * s * (2 * s) ≤ v
    quarter s q h l = omega arith

    go : (s : ℕ) → s * s ≤ v / 4 → (b : Bool) → leb ((2 * s + 1) * (2 * s + 1)) v ≡ b → cond b (2 * s + 1) (2 * s) * cond b (2 * s + 1) (2 * s) ≤ v
    go s h true e = leb-true ((2 * s + 1) * (2 * s + 1)) v e
    go s h false e = quarter s (v / 4) h (div-mul-le_self v 4)

squares_le : (s U : ℕ) → s * s ≤ U * U → s ≤ U
squares_le s U h = let l : s < suc U = lt_of_not-le (λ (g : suc U ≤ s). past (mul-le-mul g g)) in omega arith
  where
    past : suc U * suc U ≤ s * s → ⊥
    past g = omega arith

squares_lt : (s U : ℕ) → s * s < U * U → s < U
squares_lt s U h = lt_of_not-le (λ (g : U ≤ s). not-le_of_lt h (mul-le-mul g g))

twice_most : (v U : ℕ) → v ≤ U * U → twice_root v ≤ 2 * U
unfolding twice_root whole_root
twice_most v U h = let d = suc (size v / 2) in go (whole_root_by d v) (root_under d v) (eqb (whole_root_by d v * whole_root_by d v) v) refl
  where
    strictly : (a b : ℕ) → a ≤ b → (a ≡ b → ⊥) → a < b
    strictly a b l n = lt_of_not-le (λ (g : b ≤ a). n (omega arith))

    go : (s : ℕ) → s * s ≤ v → (b : Bool) → eqb (s * s) v ≡ b → 2 * s + cond b 0 1 ≤ 2 * U
    go s l true e = let k = squares_le s U (le_trans l h) in omega arith
    go s l false e = let k = squares_lt s U (lt_of_lt_of_le (strictly (s * s) v l (eqb-false (s * s) v e)) h) in omega arith

pub root_most : (f : Format) (x : Float) → units_of f x ≤ 2 ^ low f → AtMostOne (square_root f x)
unfolding square_root radicand
root_most f x h =
    let v = units_of f x * 2 ^ low f in
    round_most f (twice_root v) (2 * 2 ^ low f) (mul-pos (zero-lt-suc 1) (pow_pos (low f))) (twice_most v (2 ^ low f) (mul-le-mul_right (2 ^ low f) h))

-- ---- a quotient by something at least as large
-- by zero it is a NaN or an infinity, which counts as no units
by_zero : (f : Format) (b c r : Bool) (z : Float) (U : ℕ) → plus f z ≤ U → plus f (cond b (cond c nan (inf r)) z) ≤ U
unfolding plus
by_zero f true true r z U h = zero-le
by_zero f true false r z U h = zero-le
by_zero f false c r z U h = h

pub quotient_most : (f : Format) (x : Float) (n : ℕ) (d : ℤ) → num x * down d ≤ n * up d * den x → plus f (div f x (fin false n d)) ≤ 2 ^ low f
unfolding div plus
quotient_most f nan n d h = zero-le
quotient_most f (inf s) n d h = zero-le
quotient_most f (fin s m e) zero d h = by_zero f true (eqb m 0) (unlike s false) nan (2 ^ low f) zero-le
quotient_most f (fin s m e) (suc n) d h =
    by_zero f (eqb (suc n) 0) (eqb m 0) (unlike s false) _ (2 ^ low f)
    (round_plus_most f (unlike s false) (m * up e * down d) (suc n * up d * down e) (mul-pos (mul-pos (zero-lt-suc n) (up_pos d)) (down_pos e)) h)

-- ---- a sum of squares is not negative
round_no_less : (f : Format) (a c : ℕ) → less f (round f false a c) ≡ 0
round_no_less f a c = go (finite (round f false a c)) refl
  where
    go : (b : Bool) → finite (round f false a c) ≡ b → less f (round f false a c) ≡ 0
    go true e = (round_parts f false a c (rw e tt)).is_less
    go false e = (nothing f (round f false a c) e).1

pub square_no_less : (f : Format) (x : Float) → less f (mul f x x) ≡ 0
unfolding mul less
square_no_less f nan = refl
square_no_less f (inf s) = refl
square_no_less f (fin true m e) = round_no_less f (m * up e * (m * up e)) (down e * down e)
square_no_less f (fin false m e) = round_no_less f (m * up e * (m * up e)) (down e * down e)

pub sum_no_less : (f : Format) (x y : Float) → T (fits f x) → T (fits f y) → less f x ≡ 0 → less f y ≡ 0 → less f (add f x y) ≡ 0
sum_no_less f x y t u p q = go (finite (add f x y)) refl
  where
    none : (a b c : ℕ) → b ≡ 0 → c ≡ 0 → b + c - a ≡ 0
    none a b c e h = omega arith

    go : (b : Bool) → finite (add f x y) ≡ b → less f (add f x y) ≡ 0
    go false e = (nothing f (add f x y) e).1
    go true e =
        let z : T (finite (add f x y)) = rw e tt in
        let (a, b) = add_finite f x y z in
        let r = rounded_parts f (add f x y) (plus f x + plus f y) (less f x + less f y) (2 ^ low f) (pow_pos (low f)) (add_is f x y t u a b) z in
        r.is_less ∙ ap (λ (n : ℕ). grid f n (2 ^ low f)) (none (plus f x + plus f y) (less f x) (less f y) p q) ∙ grid_zero f (2 ^ low f) (pow_pos (low f))

-- ---- and taken from at most 1 it leaves at most 1
pub difference_most : (f : Format) (x y : Float) → T (fits f x) → T (fits f y) → plus f x ≤ 2 ^ low f → less f y ≡ 0 → T (finite (sub f x y)) → plus f (sub f x y) ≤ 2 ^ low f
unfolding sub
difference_most f x y t u p q z =
    let w = neg-fits f y u in
    let (a, b) = add_finite f x (neg y) z in
    let r = rounded_parts f (add f x (neg y)) (plus f x + plus f (neg y)) (less f x + less f (neg y)) (2 ^ low f) (pow_pos (low f)) (add_is f x (neg y) t w a b) z in
    let most = few (plus f x) (plus f (neg y)) (less f x + less f (neg y)) (2 ^ low f) p ((neg_parts f y).is_plus ∙ q) in
    le_trans (le_of_eq r.is_plus) (grid_most f (plus f x + plus f (neg y) - (less f x + less f (neg y))) (2 ^ low f) (pow_pos (low f)) most)
  where
    few : (a b c U : ℕ) → a ≤ U → b ≡ 0 → a + b - c ≤ U
    few a b c U h e = omega arith
