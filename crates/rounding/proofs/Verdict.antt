-- The closing check. g is computed, near the exact integer G; w is the same computation on sizes; E is w times N * 2 ^ -(prec - 2), rounded, a bound of the error; a is |g|.
-- If |g| + E, rounded, is at most the tolerance, then |G| is. If it is not, then |G| + 2 E is above it. The tolerance is any finite number. Assumes nothing.
use Prim.Native.Nat.{◌*◌, ◌+◌, ◌-◌, ◌<◌, ◌^◌, ◌≤◌, suc, zero-le, ℕ}
use mathlib.Core.Bool.{false, true}
use mathlib.Core.Logic.{◌⊎◌, inl, inr}
use mathlib.Core.Path.{◌∙◌, ◌≡◌, ap, refl, subst, sym}
use native.Mathlib.Nat.{add-mul, eq-zero-or-pos, le-add_left, le-add_right, le_of_eq, le_of_mul-le-mul_right, le_trans, lt_irrefl, lt_of_lt_of_le, lt_of_not-le, mul-le-mul_right, mul-lt-mul_of_pos_right, mul-pos, zero-mul}
use native.Mathlib.Omega.{arith}
use lib.Dec.{T, leb, lit≤}
use lib.Ieee.{Float, Format, add, binary32, binary64, fits, le, low, mul, prec}
use lib.Ieee.Fits.{add-fits, mul-fits, two}
use lib.Ieee.Scale.{finite, grid}
use lib.IntN.{◌*ℤ◌, ◌+ℤ◌, nat_abs, pos, ℤ}
use lib.Pow.{pow-add, pow_mono, pow_pos}
use lib.Signed.{◌<ℤ◌, ◌≤ℤ◌}
use borrow.Author.Tests.{leb-false, leb-true}
use Rattle.rounding.proofs.Compare.{le_is}
use Rattle.rounding.proofs.Errors.{times_parts}
use Rattle.rounding.proofs.Gap.{Gap}
use Rattle.rounding.proofs.Grid.{grid_mono, grid_zero}
use Rattle.rounding.proofs.Integers.{above, abs_parts, add_parts, le_parts, lt_parts, mul_parts, under}
use Rattle.rounding.proofs.Near.{Close, Floor, Near, exact_le, lost}
use Rattle.rounding.proofs.Parts.{Parts, one_side, size_kept}
use Rattle.rounding.proofs.Rounded.{Rounded, add_finite, mul_finite, rounded_parts}
use Rattle.rounding.proofs.RoundedGap.{Normal, product_gap, sum_gap}
use Rattle.rounding.proofs.Sizes.{add_pos_is, mul_pos_is, plus_is}
use Rattle.rounding.specs.Value.{less, plus, val}

-- ---- E is large enough: e units, times D, are 2 k + 1 times w, and e
enough : (w e N H D k : ℕ) → 6 ≤ D → D ≡ 4 * H → w * N * D ≤ e * H * D + w * N → e * H * D ≤ w * N * D + w * N → 2 * k + 1 ≤ 2 * N → (2 * k + 1) * w + e ≤ e * D
enough w e N H D k six q lo hi few =
    let P : 0 < D = omega arith in
    let d : e * D * D ≡ 4 * (e * H * D) = ap (λ (n : ℕ). e * n * D) q ∙ turn e H D in
    let s : 6 * (w * N) ≤ D * (w * N) = mul-le-mul_right (w * N) six in
    let t : (2 * k + 1) * (w * D) ≤ 2 * N * (w * D) = mul-le-mul_right (w * D) few in
    let u : e * D * D ≤ 8 * (w * N) * D = omega arith in
    let v : e * D ≤ 8 * (w * N) = le_of_mul-le-mul_right u P in
    let x : ((2 * k + 1) * w + e) * D ≤ e * D * D = omega arith in
    le_of_mul-le-mul_right x P
  where
    turn : (e H D : ℕ) → e * (4 * H) * D ≡ 4 * (e * H * D)
    turn e H D = omega arith

four : (p : ℕ) → 2 ≤ p → 2 ^ p ≡ 4 * 2 ^ (p - 2)
four p h = ap (λ (n : ℕ). 2 ^ n) (shape p h) ∙ pow-add 2 2 (p - 2)
  where
    shape : (p : ℕ) → 2 ≤ p → p ≡ 2 + (p - 2)
    shape p h = omega arith

-- from units times units to units
down_to : (w N c e U H D z : ℕ) → 0 < U → c * H ≡ N * U → z ≡ w * c → z * D ≤ e * U * D + z → w * N * D ≤ e * H * D + w * N
down_to w N c e U H D z P q r h =
    let a : w * c * D ≤ e * U * D + w * c = subst (λ (n : ℕ). n * D ≤ e * U * D + n) r h in
    let b = mul-le-mul_right H a in
    let m : w * (c * H) ≡ w * (N * U) = ap (λ (n : ℕ). w * n) q in
    let m' : w * (c * H) * D ≡ w * (N * U) * D = ap (λ (n : ℕ). n * D) m in
    let l : w * N * D * U ≤ (e * H * D + w * N) * U = omega arith in
    le_of_mul-le-mul_right l P

up_to : (w N c e U H D z : ℕ) → 0 < U → c * H ≡ N * U → z ≡ w * c → e * U * D ≤ z * D + z → e * H * D ≤ w * N * D + w * N
up_to w N c e U H D z P q r h =
    let a : e * U * D ≤ w * c * D + w * c = subst (λ (n : ℕ). e * U * D ≤ n * D + n) r h in
    let b = mul-le-mul_right H a in
    let m : w * (c * H) ≡ w * (N * U) = ap (λ (n : ℕ). w * n) q in
    let m' : w * (c * H) * D ≡ w * (N * U) * D = ap (λ (n : ℕ). n * D) m in
    let l : e * H * D * U ≤ (w * N * D + w * N) * U = omega arith in
    le_of_mul-le-mul_right l P

-- the product w * c is in the normal range
big : (p i w N c U : ℕ) → p - 1 + (p - 2) ≤ i → 0 < N → c * 2 ^ (p - 2) ≡ N * U → 2 ^ i ≤ w → 2 ^ (p - 1) * U ≤ w * c
big p i w N c U h n q l =
    let H = 2 ^ (p - 2) in
    let a : 2 ^ (p - 1) * H ≤ w = le_trans (le_of_eq (sym (pow-add 2 (p - 1) (p - 2)))) (le_trans (pow_mono h) l) in
    let b : 2 ^ (p - 1) * H * U ≤ w * U = mul-le-mul_right U a in
    let d : 1 * (w * U) ≤ N * (w * U) = mul-le-mul_right (w * U) n in
    let m : w * (c * H) ≡ w * (N * U) = ap (λ (k : ℕ). w * k) q in
    let x : 2 ^ (p - 1) * U * H ≤ w * c * H = omega arith in
    le_of_mul-le-mul_right x (pow_pos (p - 2))

in_range_lem : (f : Format) (i w N c : ℕ) → prec f - 1 + (prec f - 2) ≤ i → 0 < N → c * 2 ^ (prec f - 2) ≡ N * 2 ^ low f → Floor i w → Normal f (w * c)
in_range_lem f i w N c h n q (inl e) = inl (ap (λ (k : ℕ). k * c) e ∙ zero-mul c)
in_range_lem f i w N c h n q (inr e) = inr (big (prec f) i w N c (2 ^ low f) h n q e)

six : (f : Format) → 6 ≤ 2 ^ prec f
six binary32 = lit≤ tt
six binary64 = lit≤ tt

less_is : (f : Format) (u : Float) (P c : ℕ) → 0 < c → Rounded f u P 0 c → T (finite u) → less f u ≡ 0
less_is f u P c C r t = let e : 0 - P ≡ 0 = omega arith in (rounded_parts f u P 0 c C r t).is_less ∙ ap (λ (n : ℕ). grid f n c) e ∙ grid_zero f c C

-- c is N * 2 ^ -(prec - 2). Then E = w * c is enough for k below N.
pub bound_enough : (f : Format) (k i N : ℕ) (w c : Float) → T (fits f w) → T (fits f c) → T (finite (mul f w c)) → less f w ≡ 0 → less f c ≡ 0 → Floor i (plus f w)
    → prec f - 1 + (prec f - 2) ≤ i → k < N → plus f c * 2 ^ (prec f - 2) ≡ N * 2 ^ low f
    → ((2 * k + 1) * plus f w + plus f (mul f w c) ≤ plus f (mul f w c) * 2 ^ prec f) × (less f (mul f w c) ≡ 0)
bound_enough f k i N w c fw fc t nw nc fl h l q =
    let D = 2 ^ prec f in
    let U = 2 ^ low f in
    let o = mul_finite f w c t in
    let C : 0 < U * U = mul-pos (pow_pos (low f)) (pow_pos (low f)) in
    let r = mul_pos_is f w c fw fc o.0 o.1 nw nc in
    let z = plus f w * plus f c in
    let g = product_gap f (mul f w c) z 0 z r t (le-add_left z 0) zero-le (in_range_lem f i (plus f w) N (plus f c) h (le_trans (one_le k) l) q fl) in
    let nz : less f (mul f w c) ≡ 0 = less_is f (mul f w c) z (U * U) C r t in (
      enough (plus f w) (plus f (mul f w c)) N (2 ^ (prec f - 2)) D k (six f) (four (prec f) (two f))
          (down_to (plus f w) N (plus f c) (plus f (mul f w c)) U (2 ^ (prec f - 2)) D z (pow_pos (low f)) q refl (lost z (plus f (mul f w c) * U) (less f (mul f w c) * U) D g.under))
          (up_to (plus f w) N (plus f c) (plus f (mul f w c)) U (2 ^ (prec f - 2)) D z (pow_pos (low f)) q refl (gained z (plus f (mul f w c)) (less f (mul f w c)) U D nz g.over))
          (twice k N l),
      nz,
    )
  where
    one_le : (k : ℕ) → 1 ≤ suc k
    one_le k = omega arith

    twice : (k N : ℕ) → k < N → 2 * k + 1 ≤ 2 * N
    twice k N h = omega arith

    gained : (z e l U D : ℕ) → l ≡ 0 → (e * U + 0) * D ≤ (z + l * U) * D + z → e * U * D ≤ z * D + z
    gained z e l U D n h = let m : l * (U * D) ≡ 0 = ap (λ (k : ℕ). k * (U * D)) n ∙ zero-mul (U * D) in omega arith

-- ---- the two verdicts. A, e, w, τ are |g|, E, w, the tolerance, in units; F is A + e rounded
closed_core : (D k A e w τ F S G : ℕ) → 0 < D → A ≤ w → G * D ≤ A * S * D + 2 * k * (w * S) → (2 * k + 1) * w + e ≤ e * D → (A + e) * D ≤ F * D + (A + e) → F ≤ τ → G ≤ τ * S
closed_core D k A e w τ F S G P a h q l t =
    let x : F * D ≤ τ * D = mul-le-mul_right D t in
    let y : A * D + 2 * k * w ≤ τ * D = omega arith in
    let z : (A * D + 2 * k * w) * S ≤ τ * D * S = mul-le-mul_right S y in
    let v : G * D ≤ τ * S * D = omega arith in
    le_of_mul-le-mul_right v P

open_core : (D k A e w τ S G : ℕ) → 0 < D → 0 < S → A * S * D ≤ G * D + 2 * k * (w * S) → (2 * k + 1) * w + e ≤ e * D → τ < A + e → τ * S < G + 2 * (e * S)
open_core D k A e w τ S G P Q h q t =
    let x : τ * S < (A + e) * S = mul-lt-mul_of_pos_right t Q in
    let y : ((2 * k + 1) * w + e) * S ≤ e * D * S = mul-le-mul_right S q in
    let z : A * S * D ≤ (G + e * S) * D = omega arith in
    let v : A * S ≤ G + e * S = le_of_mul-le-mul_right z P in
    omega arith

exact_ge : (X : ℤ) (D B p q : ℕ) → (p ≡ 0) ⊎ (q ≡ 0) → Gap D B p q (above X) (under X) → (p + q) * D ≤ (above X + under X) * D + B
exact_ge X D B p q (inl e) g = let z : p * D ≡ 0 = ap (λ (n : ℕ). n * D) e ∙ zero-mul D in omega arith
exact_ge X D B p q (inr e) g = let z : q * D ≡ 0 = ap (λ (n : ℕ). n * D) e ∙ zero-mul D in omega arith

times_zero : (S : ℕ) {p q : ℕ} → (p ≡ 0) ⊎ (q ≡ 0) → (p * S ≡ 0) ⊎ (q * S ≡ 0)
times_zero S (inl e) = inl (ap (λ (n : ℕ). n * S) e ∙ zero-mul S)
times_zero S (inr e) = inr (ap (λ (n : ℕ). n * S) e ∙ zero-mul S)

module _ (f : Format) (k S i N : ℕ) (g w a c tol : Float) (G : ℤ) (m : Near f k S i g w G) (fa : T (fits f a)) (pa : Parts f a (plus f g + less f g) 0)
    (fc : T (fits f c)) (nc : less f c ≡ 0) (qc : plus f c * 2 ^ (prec f - 2) ≡ N * 2 ^ low f) (kN : k < N) (hi : prec f - 1 + (prec f - 2) ≤ i)
    (ft : T (fits f tol)) (it : T (finite tol)) (t : T (finite (add f a (mul f w c)))) where
  -- what the two share
  record Facts : Type 0 where
    near : Close f k S i g w G
    large : (2 * k + 1) * plus f w + plus f (mul f w c) ≤ plus f (mul f w c) * 2 ^ prec f
    summed : Rounded f (add f a (mul f w c)) (plus f a + plus f (mul f w c)) 0 (2 ^ low f)
    unsigned : less f (mul f w c) ≡ 0

  facts : Facts
  facts =
      let o = add_finite f a (mul f w c) t in
      let n = m.close (mul_finite f w c o.1).0 in
      let b = bound_enough f k i N w c m.fits_w fc o.1 n.no_less nc n.floor hi kN qc in
      record { near = n; large = b.0; summed = add_pos_is f a (mul f w c) fa (mul-fits f w c) o.0 o.1 pa.is_less b.1; unsigned = b.1 }

  test_is : le (add f a (mul f w c)) tol ≡ leb (plus f (add f a (mul f w c)) + less f tol) (plus f tol + less f (add f a (mul f w c)))
  test_is = le_is f (add f a (mul f w c)) tol (add-fits f a (mul f w c)) ft t it

  sum_is : plus f (add f a (mul f w c)) ≡ grid f (plus f a + plus f (mul f w c)) (2 ^ low f)
  sum_is = plus_is f (add f a (mul f w c)) (plus f a + plus f (mul f w c)) (2 ^ low f) (pow_pos (low f)) facts.summed t

  no_less_lem : less f (add f a (mul f w c)) ≡ 0
  no_less_lem = less_is f (add f a (mul f w c)) (plus f a + plus f (mul f w c)) (2 ^ low f) (pow_pos (low f)) facts.summed t

  size_is : plus f a ≡ plus f g + less f g
  size_is = pa.is_plus

  -- a tolerance that is met is not negative
  closed_parts : le (add f a (mul f w c)) tol ≡ true → nat_abs G + less f tol * S ≤ plus f tol * S
  closed_parts h =
      let D = 2 ^ prec f in
      let s = add f a (mul f w c) in
      let z = plus f a + plus f (mul f w c) in
      let B = 2 * k * (plus f w * S) in
      let n = facts.near in
      let F : plus f s + less f tol ≤ plus f tol + less f s = leb-true (plus f s + less f tol) (plus f tol + less f s) (sym test_is ∙ h) in
      let nt : less f tol ≡ 0 = met (plus f s) (less f tol) (plus f tol) (less f s) no_less_lem F (one_side f tol) in
      let l : z * D ≤ plus f s * D + z = lost z (plus f s) (less f s) D (sum_gap f s z 0 z facts.summed t (le-add_left z 0) zero-le).under in
      let u : nat_abs G * D ≤ plus f a * S * D + B =
      subst (λ (x : ℕ). x * D ≤ plus f a * S * D + B) (sym (abs_parts G))
      (subst (λ (x : ℕ). (above G + under G) * D ≤ x * D + B) (sym (add-mul (plus f g) (less f g) S) ∙ ap (λ (x : ℕ). x * S) (sym size_is))
      (exact_le G D B (plus f g * S) (less f g * S) n.gap)) in
      let e : less f tol * S ≡ 0 = ap (λ (x : ℕ). x * S) nt ∙ zero-mul S in
      let v : nat_abs G ≤ plus f tol * S =
      closed_core D k (plus f a) (plus f (mul f w c)) (plus f w) (plus f tol) (plus f s) S (nat_abs G) (pow_pos (prec f)) (le_trans (le_of_eq size_is) n.within) u facts.large l
      (bare (plus f s) (less f tol) (plus f tol) (less f s) no_less_lem F) in
      omega arith
    where
      met : (s b p q : ℕ) → q ≡ 0 → s + b ≤ p + q → (p ≡ 0) ⊎ (b ≡ 0) → b ≡ 0
      met s b p q e h (inl z) = omega arith
      met s b p q e h (inr z) = z

      bare : (a b c d : ℕ) → d ≡ 0 → a + b ≤ c + d → a ≤ c
      bare a b c d e h = omega arith

  open_parts : 0 < S → le (add f a (mul f w c)) tol ≡ false → plus f tol * S < nat_abs G + 2 * (plus f (mul f w c) * S) + less f tol * S
  open_parts P h = elim (eq-zero-or-pos (less f tol)) [
    | inl nt ↦ lt_of_lt_of_le (missed nt) (le-add_right (nat_abs G + 2 * (plus f (mul f w c) * S)) (less f tol * S))
    | inr p ↦ below_zero (plus f tol) (less f tol) (nat_abs G + 2 * (plus f (mul f w c) * S)) p (one_side f tol)
  ]
    where
      F : plus f tol + less f (add f a (mul f w c)) < plus f (add f a (mul f w c)) + less f tol
      F = leb-false (plus f (add f a (mul f w c)) + less f tol) (plus f tol + less f (add f a (mul f w c))) (sym test_is ∙ h)

      below_zero : (p b n : ℕ) → 0 < b → (p ≡ 0) ⊎ (b ≡ 0) → p * S < n + b * S
      below_zero p b n q (inl z) = let x : p * S ≡ 0 = ap (λ (k : ℕ). k * S) z ∙ zero-mul S in let y : 0 < b * S = mul-pos q P in omega arith
      below_zero p b n q (inr z) = absurd (lt_irrefl 0 (subst (λ (k : ℕ). 0 < k) z q))

      clash : (x y p q : ℕ) → y ≡ 0 → p ≤ x + y → x + q < p + y → ⊥
      clash x y p q e h k = omega arith

      missed : less f tol ≡ 0 → plus f tol * S < nat_abs G + 2 * (plus f (mul f w c) * S)
      missed nt =
          let D = 2 ^ prec f in
          let U = 2 ^ low f in
          let s = add f a (mul f w c) in
          let z = plus f a + plus f (mul f w c) in
          let B = 2 * k * (plus f w * S) in
          let n = facts.near in
          let over : plus f tol < z = lt_of_not-le (λ (q : z ≤ plus f tol). clash (plus f tol) (less f tol) (plus f s) (less f s) nt
          (le_trans (le_of_eq sum_is) (le_trans (grid_mono f z U (plus f tol + less f tol) U (pow_pos (low f)) (pow_pos (low f)) (mul-le-mul_right U (le_trans q (le-add_right (plus f tol) (less f tol))))) (le_of_eq (size_kept f tol ft it)))) F) in
          let u : plus f a * S * D ≤ nat_abs G * D + B =
          subst (λ (x : ℕ). plus f a * S * D ≤ x * D + B) (sym (abs_parts G))
          (subst (λ (x : ℕ). x * D ≤ (above G + under G) * D + B) (sym (add-mul (plus f g) (less f g) S) ∙ ap (λ (x : ℕ). x * S) (sym size_is))
          (exact_ge G D B (plus f g * S) (less f g * S) (times_zero S (one_side f g)) n.gap)) in
          open_core D k (plus f a) (plus f (mul f w c)) (plus f w) (plus f tol) S (nat_abs G) (pow_pos (prec f)) P u facts.large over

  -- ---- the two verdicts, over integers at the scale S
  pub closed : le (add f a (mul f w c)) tol ≡ true → pos (nat_abs G) ≤ℤ (val f tol *ℤ pos S)
  closed h =
      let q = closed_parts h in
      let e = times_parts f tol S in
      le_parts (pos (nat_abs G)) (val f tol *ℤ pos S) (omega arith)

  pub still_open : 0 < S → le (add f a (mul f w c)) tol ≡ false → (val f tol *ℤ pos S) <ℤ (pos (nat_abs G) +ℤ pos 2 *ℤ (val f (mul f w c) *ℤ pos S))
  still_open P h =
      let radius = val f (mul f w c) *ℤ pos S in
      let q = open_parts P h in
      let e = times_parts f tol S in
      let z : less f (mul f w c) * S ≡ 0 = ap (λ (n : ℕ). n * S) facts.unsigned ∙ zero-mul S in
      let v = times_parts f (mul f w c) S in
      let d = mul_parts (pos 2) radius in
      let r = add_parts (pos (nat_abs G)) (pos 2 *ℤ radius) in
      lt_parts (val f tol *ℤ pos S) (pos (nat_abs G) +ℤ pos 2 *ℤ radius) (omega arith)
