-- The rounded size `grid f a c` of a fraction a / c, in units of the format's smallest number: how far it is from the fraction, that it grows with it, and where it is exact.
-- Nothing here is about signs or overflow. Assumes nothing.
use Prim.Native.Nat.{Ordering, ◌%◌, ◌*◌, ◌+◌, ◌-◌, ◌/◌, ◌<◌, ◌^◌, ◌≤◌, compare, suc, zero, zero-le, ℕ}
use mathlib.Core.Bool.{not}
use mathlib.Core.Logic.{inl, inr}
use mathlib.Core.Path.{◌∙◌, ◌≡◌, ap, subst, sym}
use native.Mathlib.Nat.{div-add-mod', div-div-eq-div-mul, eq-or-lt_of_le, eq-zero-or-pos, le-add_right, le_antisymm, le-div_iff_mul-le, le_of_eq, le_of_lt, le_of_mul-le-mul_right, le_refl, le_trans, lt_of_le_of_lt, mod-lt, mul_assoc, mul_comm, mul-div_cancel, mul-le-mul_right, mul-one, mul-pos, mul_right_comm, pow-succ', zero-mul}
use native.Mathlib.Omega.{arith}
use lib.Arith.{lt_of_le-ne}
use lib.Dec.{T, eqb, eqb_refl, eqb→eq, compare_is_eq, is_le, leb→le, nleb→lt}
use lib.Ieee.{Format, low, nearest, prec, size}
use lib.Ieee.Digits.{back, size-le, size-lt, size_reaches}
use lib.Ieee.Fits.{kept-lt, nearest-le, two, two-le_pos}
use lib.Ieee.Nearest.{closest, closest_mono, div_mono, nearest-ge}
use lib.Ieee.Order.{drop, kept}
use lib.Ieee.Positive.{den}
use lib.Ieee.Scale.{grid}
use lib.Pow.{pow-add, pow_mono, pow_pos, shl_lt}

-- ---- what `compare` says
abbrev Cmp : Ordering → ℕ → ℕ → Type 0
Cmp Ordering.lt a b = a < b
Cmp Ordering.eq a b = a ≡ b
Cmp Ordering.gt a b = b < a

cmp : (a b : ℕ) → Cmp (compare a b) a b
cmp a b = go (compare a b) (leb→le a b) (nleb→lt a b) (eqb→eq a b) (λ (e : a ≡ b). subst (λ (x : ℕ). T (eqb a x)) e (eqb_refl a))
  where
    go : (o : Ordering) → (T (is_le o) → a ≤ b) → (T (not (is_le o)) → b < a) → (T (compare_is_eq o) → a ≡ b) → (a ≡ b → T (compare_is_eq o)) → Cmp o a b
    go Ordering.lt h k e n = lt_of_le-ne (h tt) n
    go Ordering.eq h k e n = e tt
    go Ordering.gt h k e n = k tt

-- ---- the nearest whole number t to n / u is within a half: t * u is within u / 2 of n
abbrev Half : ℕ → ℕ → ℕ → Type 0
Half n u t = (t * u * 2 ≤ n * 2 + u) × (n * 2 ≤ t * u * 2 + u)

stay : (n u q r : ℕ) → q * u + r ≡ n → r * 2 ≤ u → Half n u q
stay n u q r e h = omega arith

step : (n u q r : ℕ) → q * u + r ≡ n → u ≤ r * 2 → r < u → Half n u (suc q)
step n u q r e h l = omega arith

tie : (n u q r b : ℕ) → b < 2 → q * u + r ≡ n → r * 2 ≡ u → r < u → Half n u (q + b)
tie n u q r zero b e h l = omega arith
tie n u q r (suc zero) k e h l = omega arith
tie n u q r (suc (suc b)) k e h l = absurd (none b k)
  where
    none : (b : ℕ) → suc (suc b) < 2 → ⊥
    none b h = omega arith

closest_half : (n u : ℕ) → 0 < u → Half n u (closest n u)
closest_half n u U = go (compare (n % u * 2) u) (cmp (n % u * 2) u)
  where
    go : (o : Ordering) → Cmp o (n % u * 2) u → Half n u (nearest (n / u) o)
    go Ordering.lt c = stay n u (n / u) (n % u) (div-add-mod' n u) (le_of_lt c)
    go Ordering.eq c = tie n u (n / u) (n % u) (n / u % 2) (mod-lt (n / u) (two-le_pos 2 (le_refl 2))) (div-add-mod' n u) c (mod-lt n U)
    go Ordering.gt c = step n u (n / u) (n % u) (div-add-mod' n u) (le_of_lt c) (mod-lt n U)

-- ---- how far the rounded fraction is from the fraction
-- where digits are dropped, the fraction is 2 ^ (p - 1) of its steps at least
all_in_use : (z p : ℕ) → 0 < p → 0 < z - p → p - 1 + (z - p) < z
all_in_use z p P h = omega arith

digits : (p n c : ℕ) → 0 < p → 0 < c → 0 < drop p n c → c * 2 ^ drop p n c * 2 ^ (p - 1) ≤ n
digits p n c P C k =
    let j = drop p n c in
    let a : 2 ^ (p - 1 + j) * c ≤ n = (le-div_iff_mul-le C).0 (size_reaches (n / c) (p - 1 + j) (all_in_use (size (n / c)) p P k)) in
    le_trans (le_of_eq (mul_assoc c (2 ^ j) (2 ^ (p - 1)) ∙ mul_comm c (2 ^ j * 2 ^ (p - 1)) ∙ ap (λ (z : ℕ). z * c) (mul_comm (2 ^ j) (2 ^ (p - 1)) ∙ sym (pow-add 2 (p - 1) j)))) a

-- a step, times 2 ^ (p - 1), is at most B, if the fraction and 2 ^ (p - 1) units are
step_le : (p n c B : ℕ) → 0 < p → 0 < c → n ≤ B → c * 2 ^ (p - 1) ≤ B → c * 2 ^ drop p n c * 2 ^ (p - 1) ≤ B
step_le p n c B P C x y =
    elim (eq-zero-or-pos (drop p n c)) [
      | inl z ↦ le_trans (le_of_eq (ap (λ (k : ℕ). c * 2 ^ k * 2 ^ (p - 1)) z ∙ ap (λ (k : ℕ). k * 2 ^ (p - 1)) (mul-one c))) y
      | inr k ↦ le_trans (digits p n c P C k) x
    ]

twice : (p : ℕ) → 0 < p → 2 ^ p ≡ 2 * 2 ^ (p - 1)
twice p P = ap (λ (x : ℕ). 2 ^ x) (pre p P) ∙ pow-succ' 2 (p - 1)
  where
    pre : (p : ℕ) → 0 < p → p ≡ suc (p - 1)
    pre p h = omega arith

-- R units, times c, are within B / 2 ^ p of n
abbrev pub Within : ℕ → ℕ → ℕ → ℕ → Type 0
Within d x y B = (x * d ≤ y * d + B) × (y * d ≤ x * d + B)

scaled : (n u t h B d : ℕ) → d ≡ 2 * h → u * h ≤ B → Half n u t → Within d (t * u) n B
scaled n u t h B d e b g =
    let x = mul-le-mul_right h g.0 in
    let y = mul-le-mul_right h g.1 in
    rw e (omega arith)

-- the bound B is any that n and 2 ^ (p - 1) units have, or, where digits are dropped, that n has
near_by : (f : Format) (a c B : ℕ) → 0 < c → c * 2 ^ drop (prec f) (a * 2 ^ low f) c * 2 ^ (prec f - 1) ≤ B → Within (2 ^ prec f) (grid f a c * c) (a * 2 ^ low f) B
near_by f a c B C b =
    let p = prec f in
    let n = a * 2 ^ low f in
    let k = drop p n c in
    let t = kept p n c in
    let e : t * (c * 2 ^ k) ≡ t * 2 ^ k * c = ap (λ (z : ℕ). t * z) (mul_comm c (2 ^ k)) ∙ sym (mul_assoc t (2 ^ k) c) in
    subst (λ (z : ℕ). Within (2 ^ p) z n B) e
    (scaled n (c * 2 ^ k) t (2 ^ (p - 1)) B (2 ^ p) (twice p (two-le_pos p (two f))) b (closest_half n (c * 2 ^ k) (mul-pos C (pow_pos k))))

-- LAW 1. The error is at most 2 ^ -prec of the fraction, or half a unit: whichever is more.
pub grid_near : (f : Format) (a c B : ℕ) → 0 < c → a * 2 ^ low f ≤ B → c * 2 ^ (prec f - 1) ≤ B → Within (2 ^ prec f) (grid f a c * c) (a * 2 ^ low f) B
grid_near f a c B C x y = near_by f a c B C (step_le (prec f) (a * 2 ^ low f) c B (two-le_pos (prec f) (two f)) C x y)

-- ---- where the fraction is a whole number w of units, the error is at most 2 ^ -prec of it
same_of_half : (w u t : ℕ) → 0 < u → Half (w * u) u t → t ≡ w
same_of_half w u t U g = join t w (le_of_mul-le-mul_right x U) (le_of_mul-le-mul_right y U)
  where
    x : (t * 2) * u ≤ (w * 2 + 1) * u
    x = omega arith

    y : (w * 2) * u ≤ (t * 2 + 1) * u
    y = omega arith

    join : (t w : ℕ) → t * 2 ≤ w * 2 + 1 → w * 2 ≤ t * 2 + 1 → t ≡ w
    join t w h k = omega arith

pub closest_exact : (w u : ℕ) → 0 < u → closest (w * u) u ≡ w
closest_exact w u U = same_of_half w u (closest (w * u) u) U (closest_half (w * u) u U)

cancel : (d x w c : ℕ) → 0 < c → Within d (x * c) (w * c) (w * c) → Within d x w w
cancel d x w c C g = (le_of_mul-le-mul_right a C, le_of_mul-le-mul_right b C)
  where
    a : (x * d) * c ≤ (w * d + w) * c
    a = omega arith

    b : (w * d) * c ≤ (x * d + w) * c
    b = omega arith

pub grid_whole : (f : Format) (a c w : ℕ) → 0 < c → a * 2 ^ low f ≡ w * c → Within (2 ^ prec f) (grid f a c) w w
grid_whole f a c w C e =
    let p = prec f in
    let n = a * 2 ^ low f in
    elim (eq-zero-or-pos (drop p n c)) [
      | inl z ↦
          let x : grid f a c ≡ w =
          ap (λ (k : ℕ). closest n (c * 2 ^ k) * 2 ^ k) z ∙ mul-one (closest n (c * 1)) ∙ ap (λ (k : ℕ). closest n k) (mul-one c) ∙ ap (λ (k : ℕ). closest k c) e ∙ closest_exact w c C in
          subst (λ (k : ℕ). Within (2 ^ p) k w w) (sym x) (le-add_right (w * 2 ^ p) w, le-add_right (w * 2 ^ p) w)
      | inr k ↦ cancel (2 ^ p) (grid f a c) w c C (subst (λ (z : ℕ). Within (2 ^ p) (grid f a c * c) z z) e (near_by f a c n C (digits p n c (two-le_pos p (two f)) C k)))
    ]

-- ---- a number of no more digits than the format keeps is not changed
spare : (z p l : ℕ) → z ≤ p + l → z - p ≤ l
spare z p l h = omega arith

pub grid_exact : (f : Format) (a c q j : ℕ) → 0 < c → q < 2 ^ prec f → a * 2 ^ low f ≡ q * 2 ^ j * c → grid f a c ≡ q * 2 ^ j
grid_exact f a c q j C small h =
    let p = prec f in
    let n = a * 2 ^ low f in
    let e1 : n / c ≡ q * 2 ^ j = ap (λ (x : ℕ). x / c) h ∙ mul-div_cancel (q * 2 ^ j) C in
    let k = drop p n c in
    let k-le : k ≤ j = spare (size (n / c)) p j (size-le (n / c) (p + j) (subst (λ (x : ℕ). x < 2 ^ (p + j)) (sym e1) (shl_lt p j small))) in
    let r = q * 2 ^ (j - k) in
    let e3 : r * 2 ^ k ≡ q * 2 ^ j = mul_assoc q (2 ^ (j - k)) (2 ^ k) ∙ ap (λ (x : ℕ). q * x) (sym (pow-add 2 (j - k) k) ∙ ap (λ (x : ℕ). 2 ^ x) (back j k k-le)) in
    let e2 : n ≡ r * (c * 2 ^ k) = h ∙ ap (λ (x : ℕ). x * c) (sym e3) ∙ mul_assoc r (2 ^ k) c ∙ ap (λ (x : ℕ). r * x) (mul_comm (2 ^ k) c) in
    ap (λ (x : ℕ). x * 2 ^ k) (ap (λ (x : ℕ). closest x (c * 2 ^ k)) e2 ∙ closest_exact r (c * 2 ^ k) (mul-pos C (pow_pos k))) ∙ e3

-- ---- the rounded size grows with the fraction (as in `lib.Ieee.Order`, where it is not public)
size_mono : (a b : ℕ) → a ≤ b → size a ≤ size b
size_mono a b h = size-le a (size b) (lt_of_le_of_lt h (size-lt b))

same_drop : (k a b c d : ℕ) → 0 < b → 0 < d → a * d ≤ c * b → closest a (b * 2 ^ k) * 2 ^ k ≤ closest c (d * 2 ^ k) * 2 ^ k
same_drop k a b c d B D h =
    mul-le-mul_right (2 ^ k)
    (closest_mono a (b * 2 ^ k) c (d * 2 ^ k) (mul-pos B (pow_pos k)) (mul-pos D (pow_pos k))
    (le_trans (le_of_eq (sym (mul_assoc a d (2 ^ k)))) (le_trans (mul-le-mul_right (2 ^ k) h) (le_of_eq (mul_assoc c b (2 ^ k))))))

pub kept_le : (p n den : ℕ) → kept p n den ≤ 2 ^ p
kept_le p n den =
    let k = drop p n den in
    let u = den * 2 ^ k in
    le_trans (nearest-le (n / u) (compare (n % u * 2) u)) (subst (λ (x : ℕ). x < 2 ^ p) (div-div-eq-div-mul n den (2 ^ k)) (kept-lt p (n / den)))

kept_ge : (p n den : ℕ) → 0 < p → 0 < drop p n den → 2 ^ (p - 1) ≤ kept p n den
kept_ge p n den P K =
    let k = drop p n den in
    let u = den * 2 ^ k in
    let w = n / den in
    let a : 2 ^ (p - 1) * 2 ^ k ≤ w = le_trans (le_of_eq (sym (pow-add 2 (p - 1) k))) (size_reaches w (p - 1 + k) (all_in_use (size w) p P K)) in
    le_trans (subst (λ (x : ℕ). 2 ^ (p - 1) ≤ x) (div-div-eq-div-mul n den (2 ^ k)) ((le-div_iff_mul-le (pow_pos k)).1 a)) (nearest-ge (n / u) (compare (n % u * 2) u))

fewer : (x y p : ℕ) → x ≤ y → x - p ≤ y - p
fewer x y p h = omega arith

room : (p j k : ℕ) → 0 < p → j < k → p + j ≤ p - 1 + k
room p j k P h = omega arith

steps_mono : (p a b c d : ℕ) → 0 < p → 0 < b → 0 < d → a * d ≤ c * b → kept p a b * 2 ^ drop p a b ≤ kept p c d * 2 ^ drop p c d
steps_mono p a b c d P B D h =
    let j = drop p a b in
    let k = drop p c d in
    elim (eq-or-lt_of_le (fewer (size (a / b)) (size (c / d)) p (size_mono (a / b) (c / d) (div_mono a b c d B D h)))) [
      | inl e ↦ subst (λ (x : ℕ). closest a (b * 2 ^ x) * 2 ^ x ≤ kept p c d * 2 ^ k) (sym e) (same_drop k a b c d B D h)
      | inr l ↦
          le_trans (mul-le-mul_right (2 ^ j) (kept_le p a b))
          (le_trans (le_of_eq (sym (pow-add 2 p j)))
          (le_trans (pow_mono (room p j k P l))
          (le_trans (le_of_eq (pow-add 2 (p - 1) k)) (mul-le-mul_right (2 ^ k) (kept_ge p c d P (lt_of_le_of_lt zero-le l))))))
    ]

pub grid_mono : (f : Format) (a b c d : ℕ) → 0 < b → 0 < d → a * d ≤ c * b → grid f a b ≤ grid f c d
grid_mono f a b c d B D h =
    let l = 2 ^ low f in
    steps_mono (prec f) (a * l) b (c * l) d (two-le_pos (prec f) (two f)) B D
    (le_trans (le_of_eq (mul_right_comm a l d)) (le_trans (mul-le-mul_right l h) (le_of_eq (mul_right_comm c b l))))

pub grid_same : (f : Format) (a b c d : ℕ) → 0 < b → 0 < d → a * d ≡ c * b → grid f a b ≡ grid f c d
grid_same f a b c d B D e = le_antisymm (grid_mono f a b c d B D (le_of_eq e)) (grid_mono f c d a b D B (le_of_eq (sym e)))

pub grid_zero : (f : Format) (c : ℕ) → 0 < c → grid f 0 c ≡ 0
grid_zero f c C = grid_exact f 0 c 0 0 C (pow_pos (prec f)) (zero-mul (2 ^ low f) ∙ sym (zero-mul c))
