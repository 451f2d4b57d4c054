-- A sum and a product of floats, by their parts: the part of the exact result, rounded by `grid`. Assumes nothing.
use Prim.Native.Nat.{◌*◌, ◌+◌, ◌-◌, ◌<◌, ◌^◌, ◌≤◌, ℕ}
use mathlib.Core.Bool.{Bool, beq, cond, false, not, true}
use mathlib.Core.Path.{◌∙◌, ◌≡◌, ap, refl, subst, sym}
use native.Mathlib.Nat.{le_of_eq, le_of_mul-le-mul_right, le_trans, mul_assoc, mul_comm, mul-le-mul_right, mul-mul-mul_comm, mul-pos, mul_right_comm, mul-sub, sub-zero, zero-mul}
use native.Mathlib.Omega.{arith}
use lib.Dec.{T, eqb, ltb, ltb→lt, nltb→le}
use lib.Ieee.{Float, Format, add, down, fin, fits, inf, low, mul, nan, round, sum, unlike, up}
use lib.Ieee.Fits.{down_pos}
use lib.Ieee.Scale.{finite, grid, overflow, round_same}
use lib.Pow.{pow_pos}
use Rattle.binary64.proofs.Units.{units_exact}
use Rattle.binary64.specs.Units.{units_of}
use Rattle.rounding.proofs.Grid.{grid_zero}
use Rattle.rounding.proofs.Parts.{Parts, round_finite, round_parts, round_under}
use Rattle.rounding.specs.Value.{less, plus}

-- ---- z is p / c - q / c, rounded
pub data Rounded (f : Format) (z : Float) (p q c : ℕ) : Type 0 where
  upward : q ≤ p → z ≡ round f false (p - q) c → Rounded f z p q c
  downward : p ≤ q → z ≡ round f true (q - p) c → Rounded f z p q c

again : (f : Format) (a b c : ℕ) {z : Float} → a ≡ b → z ≡ round f false b c → z ≡ round f false a c
again f a b c e h = h ∙ ap (λ (n : ℕ). round f false n c) (sym e)

again' : (f : Format) (a b c : ℕ) {z : Float} → a ≡ b → z ≡ round f true b c → z ≡ round f true a c
again' f a b c e h = h ∙ ap (λ (n : ℕ). round f true n c) (sym e)

sum_is : (f : Format) (s : Bool) (a : ℕ) (t : Bool) (b c : ℕ) → Rounded f (sum f s a t b c) (cond s 0 a + cond t 0 b) (cond s a 0 + cond t b 0) c
unfolding sum
sum_is f false a false b c = upward (omega arith) (again f (a + b - (0 + 0)) (a + b) c (omega arith) refl)
sum_is f true a true b c = downward (omega arith) (again' f (a + b - (0 + 0)) (a + b) c (omega arith) refl)
sum_is f false a true b c = go (ltb a b) (ltb→lt a b) (nltb→le a b)
  where
    go : (u : Bool) → (T u → a < b) → (T (not u) → b ≤ a) → Rounded f (cond u (round f true (b - a) c) (round f false (a - b) c)) (a + 0) (0 + b) c
    go true h k = let l : a < b = h tt in downward (omega arith) (again' f (0 + b - (a + 0)) (b - a) c (omega arith) refl)
    go false h k = let l : b ≤ a = k tt in upward (omega arith) (again f (a + 0 - (0 + b)) (a - b) c (omega arith) refl)
sum_is f true a false b c = go (ltb a b) (ltb b a) (ltb→lt a b) (nltb→le a b) (nltb→le b a)
  where
    go : (u v : Bool) → (T u → a < b) → (T (not u) → b ≤ a) → (T (not v) → a ≤ b) → Rounded f (cond u (round f false (b - a) c) (round f v (a - b) c)) (0 + b) (a + 0) c
    go true v h k i = let l : a < b = h tt in upward (omega arith) (again f (0 + b - (a + 0)) (b - a) c (omega arith) refl)
    go false true h k i = let l : b ≤ a = k tt in downward (omega arith) (again' f (a + 0 - (0 + b)) (a - b) c (omega arith) refl)
    go false false h k i = let l : b ≤ a = k tt in let l' : a ≤ b = i tt in upward (omega arith) (again f (0 + b - (a + 0)) (a - b) c (omega arith) refl)

-- the same by other fractions
difference : (p q c P Q U : ℕ) → p * U ≡ P * c → q * U ≡ Q * c → (p - q) * U ≡ (P - Q) * c
difference p q c P Q U e h = mul_comm (p - q) U ∙ mul-sub U p q ∙ cc (mul_comm U p, mul_comm U q, mul_comm c P, mul_comm c Q) ∙ sym (mul_comm (P - Q) c ∙ mul-sub c P Q)

order : (p q c P Q U : ℕ) → 0 < c → p * U ≡ P * c → q * U ≡ Q * c → q ≤ p → Q ≤ P
order p q c P Q U C e h l = le_of_mul-le-mul_right (le_trans (le_of_eq (sym h)) (le_trans (mul-le-mul_right U l) (le_of_eq e))) C

rescale : (f : Format) (z : Float) (p q c P Q U : ℕ) → 0 < c → 0 < U → p * U ≡ P * c → q * U ≡ Q * c → Rounded f z p q c → Rounded f z P Q U
rescale f z p q c P Q U C W e h (upward l r) = upward (order p q c P Q U C e h l) (r ∙ round_same f false (p - q) c (P - Q) U C W (difference p q c P Q U e h))
rescale f z p q c P Q U C W e h (downward l r) = downward (order q p c Q P U C h e l) (r ∙ round_same f true (q - p) c (Q - P) U C W (difference q p c Q P U h e))

-- ---- the sum
pub add_finite : (f : Format) (x y : Float) → T (finite (add f x y)) → T (finite x) × T (finite y)
unfolding add
add_finite f nan y t = absurd t
add_finite f (inf s) nan t = absurd t
add_finite f (inf s) (inf u) t = go (beq s u) t
  where
    go : (b : Bool) → T (finite (cond b (inf s) nan)) → T (finite (inf s)) × T (finite (inf u))
    go true t = absurd t
    go false t = absurd t
add_finite f (inf s) (fin u n d) t = absurd t
add_finite f (fin s m e) nan t = absurd t
add_finite f (fin s m e) (inf u) t = absurd t
add_finite f (fin s m e) (fin u n d) t = (tt, tt)

scale_up : (s : Bool) (a M U c : ℕ) → a * U ≡ M * c → cond s 0 a * U ≡ cond s 0 M * c
scale_up true a M U c e = zero-mul U ∙ sym (zero-mul c)
scale_up false a M U c e = e

scale_down : (s : Bool) (a M U c : ℕ) → a * U ≡ M * c → cond s a 0 * U ≡ cond s M 0 * c
scale_down false a M U c e = zero-mul U ∙ sym (zero-mul c)
scale_down true a M U c e = e

pair : (a b M N U c : ℕ) → a * U ≡ M * c → b * U ≡ N * c → (a + b) * U ≡ (M + N) * c
pair a b M N U c e h = omega arith

pub add_is : (f : Format) (x y : Float) → T (fits f x) → T (fits f y) → T (finite x) → T (finite y) → Rounded f (add f x y) (plus f x + plus f y) (less f x + less f y) (2 ^ low f)
unfolding add plus less
add_is f nan y p q i j = absurd i
add_is f (inf s) y p q i j = absurd i
add_is f (fin s m e) nan p q i j = absurd j
add_is f (fin s m e) (inf t) p q i j = absurd j
add_is f (fin s m e) (fin t n d) p q i j =
    let U = 2 ^ low f in
    let M = units_of f (fin s m e) in
    let N = units_of f (fin t n d) in
    let a = m * up e * down d in
    let b = n * up d * down e in
    let c = down e * down d in
    let A : a * U ≡ M * c = mul_right_comm (m * up e) (down d) U ∙ ap (λ (k : ℕ). k * down d) (units_exact f s m e p) ∙ mul_assoc M (down e) (down d) in
    let B : b * U ≡ N * c = mul_right_comm (n * up d) (down e) U ∙ ap (λ (k : ℕ). k * down e) (units_exact f t n d q) ∙ mul_assoc N (down d) (down e) ∙ ap (λ (k : ℕ). N * k) (mul_comm (down d) (down e)) in
    rescale f (add f (fin s m e) (fin t n d)) (cond s 0 a + cond t 0 b) (cond s a 0 + cond t b 0) c (cond s 0 M + cond t 0 N) (cond s M 0 + cond t N 0) U (mul-pos (down_pos e) (down_pos d)) (pow_pos (low f))
    (pair (cond s 0 a) (cond t 0 b) (cond s 0 M) (cond t 0 N) U c (scale_up s a M U c A) (scale_up t b N U c B))
    (pair (cond s a 0) (cond t b 0) (cond s M 0) (cond t N 0) U c (scale_down s a M U c A) (scale_down t b N U c B))
    (sum_is f s a t b c)

-- ---- the product
pub mul_finite : (f : Format) (x y : Float) → T (finite (mul f x y)) → T (finite x) × T (finite y)
unfolding mul
mul_finite f nan y t = absurd t
mul_finite f (inf s) nan t = absurd t
mul_finite f (inf s) (inf u) t = absurd t
mul_finite f (inf s) (fin u n d) t = go (eqb n 0) t
  where
    go : (b : Bool) → T (finite (cond b nan (inf (unlike s u)))) → T (finite (inf s)) × T (finite (fin u n d))
    go true t = absurd t
    go false t = absurd t
mul_finite f (fin s m e) nan t = absurd t
mul_finite f (fin s m e) (inf u) t = go (eqb m 0) t
  where
    go : (b : Bool) → T (finite (cond b nan (inf (unlike s u)))) → T (finite (fin s m e)) × T (finite (inf u))
    go true t = absurd t
    go false t = absurd t
mul_finite f (fin s m e) (fin u n d) t = (tt, tt)

signs : (f : Format) (s t : Bool) (M N c : ℕ) → Rounded f (round f (unlike s t) (M * N) c) (cond s 0 M * cond t 0 N + cond s M 0 * cond t N 0) (cond s 0 M * cond t N 0 + cond s M 0 * cond t 0 N) c
signs f false false M N c = upward (omega arith) (again f (M * N + 0 * 0 - (M * 0 + 0 * N)) (M * N) c (omega arith) refl)
signs f true true M N c = upward (omega arith) (again f (0 * 0 + M * N - (0 * N + M * 0)) (M * N) c (omega arith) refl)
signs f false true M N c = downward (omega arith) (again' f (M * N + 0 * 0 - (M * 0 + 0 * N)) (M * N) c (omega arith) refl)
signs f true false M N c = downward (omega arith) (again' f (0 * 0 + M * N - (0 * N + M * 0)) (M * N) c (omega arith) refl)

pub mul_is : (f : Format) (x y : Float) → T (fits f x) → T (fits f y) → T (finite x) → T (finite y)
    → Rounded f (mul f x y) (plus f x * plus f y + less f x * less f y) (plus f x * less f y + less f x * plus f y) (2 ^ low f * 2 ^ low f)
unfolding mul plus less
mul_is f nan y p q i j = absurd i
mul_is f (inf s) y p q i j = absurd i
mul_is f (fin s m e) nan p q i j = absurd j
mul_is f (fin s m e) (inf t) p q i j = absurd j
mul_is f (fin s m e) (fin t n d) p q i j =
    let U = 2 ^ low f in
    let M = units_of f (fin s m e) in
    let N = units_of f (fin t n d) in
    let r : mul f (fin s m e) (fin t n d) ≡ round f (unlike s t) (M * N) (U * U) =
    round_same f (unlike s t) (m * up e * (n * up d)) (down e * down d) (M * N) (U * U) (mul-pos (down_pos e) (down_pos d)) (mul-pos (pow_pos (low f)) (pow_pos (low f)))
    (mul-mul-mul_comm (m * up e) (n * up d) U U ∙ ap (λ (k : ℕ). k * (n * up d * U)) (units_exact f s m e p) ∙ ap (λ (k : ℕ). M * down e * k) (units_exact f t n d q) ∙ mul-mul-mul_comm M (down e) N (down d)) in
    subst (λ (z : Float). Rounded f z (cond s 0 M * cond t 0 N + cond s M 0 * cond t N 0) (cond s 0 M * cond t N 0 + cond s M 0 * cond t 0 N) (U * U)) (sym r) (signs f s t M N (U * U))

-- ---- the parts of what is rounded, and that it is finite
none : (f : Format) (a b c : ℕ) → 0 < c → a ≤ b → 0 ≡ grid f (a - b) c
none f a b c C h = let z : a - b ≡ 0 = omega arith in sym (ap (λ (n : ℕ). grid f n c) z ∙ grid_zero f c C)

parts_of : (f : Format) (z : Float) (a b p q : ℕ) → a ≡ p → b ≡ q → Parts f z a b → Parts f z p q
parts_of f z a b p q e h r = record { is_plus = r.is_plus ∙ e; is_less = r.is_less ∙ h }

pub rounded_parts : (f : Format) (z : Float) (p q c : ℕ) → 0 < c → Rounded f z p q c → T (finite z) → Parts f z (grid f (p - q) c) (grid f (q - p) c)
rounded_parts f z p q c C (upward l r) t =
    parts_of f z (grid f (p - q) c) 0 (grid f (p - q) c) (grid f (q - p) c) refl (none f q p c C l)
    (subst (λ (y : Float). Parts f y (grid f (p - q) c) 0) (sym r) (round_parts f false (p - q) c (subst (λ (y : Float). T (finite y)) r t)))
rounded_parts f z p q c C (downward l r) t =
    parts_of f z 0 (grid f (q - p) c) (grid f (p - q) c) (grid f (q - p) c) (none f p q c C l) refl
    (subst (λ (y : Float). Parts f y 0 (grid f (q - p) c)) (sym r) (round_parts f true (q - p) c (subst (λ (y : Float). T (finite y)) r t)))

pub rounded_finite : (f : Format) (z : Float) (p q c : ℕ) → Rounded f z p q c → grid f (p - q) c < overflow f → grid f (q - p) c < overflow f → T (finite z)
rounded_finite f z p q c (upward l r) h k = subst (λ (y : Float). T (finite y)) (sym r) (round_finite f false (p - q) c h)
rounded_finite f z p q c (downward l r) h k = subst (λ (y : Float). T (finite y)) (sym r) (round_finite f true (q - p) c k)

pub rounded_under : (f : Format) (z : Float) (p c : ℕ) → 0 < c → Rounded f z p 0 c → T (finite z) → grid f p c < overflow f
rounded_under f z p c C (upward l r) t = subst (λ (n : ℕ). grid f n c < overflow f) (sub-zero p) (round_under f false (p - 0) c (subst (λ (y : Float). T (finite y)) r t))
rounded_under f z p c C (downward l r) t =
    let e : 0 - p ≡ p = omega arith in
    subst (λ (n : ℕ). grid f n c < overflow f) e (round_under f true (0 - p) c (subst (λ (y : Float). T (finite y)) r t))
