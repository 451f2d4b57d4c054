-- The same impulses in the order of work memory and in that of document 01: all numbers of the one are finite where all of the other are. Assumes nothing.
use Prim.Native.Nat.{ℕ, zero, suc, ◌+◌, ◌*◌, ◌/◌, ◌%◌, ◌<◌}
use mathlib.Core.Path.{◌≡◌, refl, sym, ap, ◌∙◌}
use mathlib.Core.Bool.{Bool, true, false}
use mathlib.Core.List.{List}
use native.Mathlib.Omega.{arith}
use lib.ListN.{get_or}
use lib.Ieee.{Float, nan}
use lib.Ieee.Scale.{finite}
use Rattle.loops.specs.Every.{every}
use Rattle.loops.proofs.Every.{every_iff}
use Rattle.kapitsa_math.specs.Lent.{vec_of, spread_of}
use Rattle.kapitsa_joint.specs.Impulse.{impulse_of, paired_of}
use Rattle.kapitsa_joint.specs.declared.impulse.GeneralizedImpulse.{GeneralizedImpulse}
use Rattle.mass_operator.specs.Applied.{all_finite_of}
use Rattle.mass_operator.specs.Lent.{Impulses, Paired}

-- ---- where each of a body's six numbers stands in the other order
module _ (l m : List Float) (b : ℕ) (e : paired_of l b ≡ impulse_of m b) where
  -- number r of work memory's six
  lent_at : (r : ℕ) {k : ℕ} → r < 6 → k ≡ 6 * b + r → (p : ℕ) × (p < 6 * b + 6) × (get_or l k nan ≡ get_or m p nan)
  unfolding paired_of impulse_of vec_of spread_of
  lent_at zero {k} h q = let s : k ≡ 6 * b = omega arith in (6 * b, omega arith, rw s (ap (λ (g : GeneralizedImpulse). g.linear.x) e))
  lent_at (suc zero) h q = (6 * b + 3, omega arith, rw q (ap (λ (g : GeneralizedImpulse). g.angular.x) e))
  lent_at (suc (suc zero)) h q = (6 * b + 1, omega arith, rw q (ap (λ (g : GeneralizedImpulse). g.linear.y) e))
  lent_at (suc (suc (suc zero))) {k} h q = let s : k ≡ 6 * b + 1 + 2 = omega arith in (6 * b + 3 + 1, omega arith, rw s (ap (λ (g : GeneralizedImpulse). g.angular.y) e))
  lent_at (suc (suc (suc (suc zero)))) h q = (6 * b + 2, omega arith, rw q (ap (λ (g : GeneralizedImpulse). g.linear.z) e))
  lent_at (suc (suc (suc (suc (suc zero))))) {k} h q = let s : k ≡ 6 * b + 1 + 4 = omega arith in (6 * b + 3 + 2, omega arith, rw s (ap (λ (g : GeneralizedImpulse). g.angular.z) e))
  lent_at (suc (suc (suc (suc (suc (suc r)))))) h q = absurd (omega arith)

  -- number r of document 01's six
  work_at : (r : ℕ) {k : ℕ} → r < 6 → k ≡ 6 * b + r → (p : ℕ) × (p < 6 * b + 6) × (get_or m k nan ≡ get_or l p nan)
  unfolding paired_of impulse_of vec_of spread_of
  work_at zero {k} h q = let s : k ≡ 6 * b = omega arith in (6 * b, omega arith, rw s (sym (ap (λ (g : GeneralizedImpulse). g.linear.x) e)))
  work_at (suc zero) h q = (6 * b + 2, omega arith, rw q (sym (ap (λ (g : GeneralizedImpulse). g.linear.y) e)))
  work_at (suc (suc zero)) h q = (6 * b + 4, omega arith, rw q (sym (ap (λ (g : GeneralizedImpulse). g.linear.z) e)))
  work_at (suc (suc (suc zero))) h q = (6 * b + 1, omega arith, rw q (sym (ap (λ (g : GeneralizedImpulse). g.angular.x) e)))
  work_at (suc (suc (suc (suc zero)))) {k} h q = let s : k ≡ 6 * b + 3 + 1 = omega arith in (6 * b + 1 + 2, omega arith, rw s (sym (ap (λ (g : GeneralizedImpulse). g.angular.y) e)))
  work_at (suc (suc (suc (suc (suc zero))))) {k} h q = let s : k ≡ 6 * b + 3 + 2 = omega arith in (6 * b + 1 + 4, omega arith, rw s (sym (ap (λ (g : GeneralizedImpulse). g.angular.z) e)))
  work_at (suc (suc (suc (suc (suc (suc r)))))) h q = absurd (omega arith)

-- ---- a test of every number
tested : (f : Float → Bool) (l m : List Float) (n : ℕ) → ((k : ℕ) → k < n → (p : ℕ) × (p < n) × (get_or m k nan ≡ get_or l p nan)) → every (λ k. f (get_or l k nan)) n ≡ true → every (λ k. f (get_or m k nan)) n ≡ true
tested f l m n at h =
    (every_iff (λ k. f (get_or m k nan)) n).1 (λ k s. let (p, t, e) = at k s in ap f e ∙ (every_iff (λ k. f (get_or l k nan)) n).0 h p t)

together : (a b : Bool) → (a ≡ true → b ≡ true) → (b ≡ true → a ≡ true) → a ≡ b
together true b f g = sym (f refl)
together false true f g = g refl
together false false f g = refl

pub finite_alike : (g : ℕ → GeneralizedImpulse) (n : ℕ) (l m : List Float) → Paired g n l → Impulses g n m → all_finite_of l ≡ all_finite_of m
unfolding all_finite_of
finite_alike g n l m p q = rw (p.long, q.long) (together (every (λ k. finite (get_or l k nan)) (6 * n)) (every (λ k. finite (get_or m k nan)) (6 * n)) (tested finite l m (6 * n) work) (tested finite m l (6 * n) lent))
  where
    same : (b : ℕ) → b < n → paired_of l b ≡ impulse_of m b
    same b s = p.at b s ∙ sym (q.at b s)

    work : (k : ℕ) → k < 6 * n → (p : ℕ) × (p < 6 * n) × (get_or m k nan ≡ get_or l p nan)
    work k h =
        let s : k / 6 < n = omega arith in
        let (p, t, e) = work_at l m (k / 6) (same (k / 6) s) (k % 6) {k = k} (omega arith) (omega arith) in
        (p, omega arith, e)

    lent : (k : ℕ) → k < 6 * n → (p : ℕ) × (p < 6 * n) × (get_or l k nan ≡ get_or m p nan)
    lent k h =
        let s : k / 6 < n = omega arith in
        let (p, t, e) = lent_at l m (k / 6) (same (k / 6) s) (k % 6) {k = k} (omega arith) (omega arith) in
        (p, omega arith, e)
