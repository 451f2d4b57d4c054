-- The list of the impulses g 0 .. g (n - 1) in the order of document 01 holds them, and is the only list of its length that does. Assumes nothing.
use Prim.Native.Nat.{ℕ, zero, suc, ◌+◌, ◌*◌, ◌/◌, ◌%◌, ◌<◌, ◌≤◌}
use mathlib.Core.Path.{◌≡◌, refl, sym, ap, ◌∙◌}
use mathlib.Core.Bool.{Bool, true, false, not}
use mathlib.Core.List.{List, [], ◌∷◌, ◌++◌}
use native.Mathlib.Omega.{arith}
use lib.Dec.{T, ltb, ltb→lt, nltb→le}
use lib.ListN.{length, get_or, length-append, get_or-append}
use lib.Seq.{get_or-append-add, ext_get_or}
use lib.Ieee.{Float, nan}
use Rattle.kapitsa_math.specs.Lent.{vec_of}
use Rattle.kapitsa_joint.specs.Impulse.{impulse_of}
use Rattle.kapitsa_joint.specs.declared.impulse.GeneralizedImpulse.{GeneralizedImpulse}
use Rattle.mass_operator.specs.Flat.{flat_impulses}
use Rattle.mass_operator.specs.Lent.{Impulses}

-- ---- reading in the first and in the second part of a list
vec_first : (l m : List Float) (at : ℕ) → at + 3 ≤ length l → vec_of (l ++ m) at ≡ vec_of l at
unfolding vec_of
vec_first l m at h = rw (get_or-append l m nan at (omega arith), get_or-append l m nan (at + 1) (omega arith), get_or-append l m nan (at + 2) (omega arith))

first_impulse : (l m : List Float) (b : ℕ) → 6 * b + 6 ≤ length l → impulse_of (l ++ m) b ≡ impulse_of l b
unfolding impulse_of
first_impulse l m b h = rw (vec_first l m (6 * b) (omega arith), vec_first l m (6 * b + 3) (omega arith))

-- the six numbers of an impulse behind a list
module _ (l : List Float) (g : GeneralizedImpulse) (b : ℕ) (e : length l ≡ 6 * b) where
  abbrev six : List Float
  six = g.linear.x ∷ g.linear.y ∷ g.linear.z ∷ g.angular.x ∷ g.angular.y ∷ g.angular.z ∷ []

  at_six : (k : ℕ) {i : ℕ} → i ≡ 6 * b + k → get_or (l ++ six) i nan ≡ get_or six k nan
  at_six k {i} h = let q : i ≡ length l + k = omega arith in rw q (get_or-append-add l six k nan)

  last_impulse : impulse_of (l ++ six) b ≡ g
  unfolding impulse_of vec_of
  last_impulse =
      rw (at_six 0 {i = 6 * b} (omega arith), at_six 1 {i = 6 * b + 1} refl, at_six 2 {i = 6 * b + 2} refl, at_six 3 {i = 6 * b + 3} refl, at_six 4 {i = 6 * b + 3 + 1} (omega arith), at_six 5 {i = 6 * b + 3 + 2} (omega arith))

-- ---- the list holds the impulses
pub flat_length : (g : ℕ → GeneralizedImpulse) (n : ℕ) → length (flat_impulses g n) ≡ 6 * n
unfolding flat_impulses
flat_length g zero = refl
flat_length g (suc n) =
    length-append (flat_impulses g n) ((g n).linear.x ∷ (g n).linear.y ∷ (g n).linear.z ∷ (g n).angular.x ∷ (g n).angular.y ∷ (g n).angular.z ∷ []) ∙ omega (arith, flat_length g n)

flat_at : (g : ℕ → GeneralizedImpulse) (n b : ℕ) → b < n → impulse_of (flat_impulses g n) b ≡ g b
unfolding flat_impulses
flat_at g zero b h = absurd (omega arith)
flat_at g (suc n) b h = go (ltb b n) (ltb→lt b n) (nltb→le b n) (flat_at g n b)
  where
    go : (t : Bool) → (T t → b < n) → (T (not t) → n ≤ b) → (b < n → impulse_of (flat_impulses g n) b ≡ g b)
        → impulse_of (flat_impulses g n ++ ((g n).linear.x ∷ (g n).linear.y ∷ (g n).linear.z ∷ (g n).angular.x ∷ (g n).angular.y ∷ (g n).angular.z ∷ [])) b ≡ g b
    go true y m r = first_impulse (flat_impulses g n) ((g n).linear.x ∷ (g n).linear.y ∷ (g n).linear.z ∷ (g n).angular.x ∷ (g n).angular.y ∷ (g n).angular.z ∷ []) b (omega (arith, flat_length g n, y tt)) ∙ r (y tt)
    go false y m r = let e : b ≡ n = omega (arith, m tt) in rw e (last_impulse (flat_impulses g n) (g n) n (flat_length g n))

pub flat_holds : (g : ℕ → GeneralizedImpulse) (n : ℕ) → Impulses g n (flat_impulses g n)
flat_holds g n = record { long = flat_length g n; at = flat_at g n }

-- ---- and no other list does
module _ (l m : List Float) (b : ℕ) (e : impulse_of l b ≡ impulse_of m b) where
  numbers : (r : ℕ) {k : ℕ} → r < 6 → k ≡ 6 * b + r → get_or l k nan ≡ get_or m k nan
  unfolding impulse_of vec_of
  numbers zero {k} h q = let p : k ≡ 6 * b = omega arith in rw p (ap (λ (g : GeneralizedImpulse). g.linear.x) e)
  numbers (suc zero) h q = rw q (ap (λ (g : GeneralizedImpulse). g.linear.y) e)
  numbers (suc (suc zero)) h q = rw q (ap (λ (g : GeneralizedImpulse). g.linear.z) e)
  numbers (suc (suc (suc zero))) h q = rw q (ap (λ (g : GeneralizedImpulse). g.angular.x) e)
  numbers (suc (suc (suc (suc zero)))) {k} h q = let p : k ≡ 6 * b + 3 + 1 = omega arith in rw p (ap (λ (g : GeneralizedImpulse). g.angular.y) e)
  numbers (suc (suc (suc (suc (suc zero))))) {k} h q = let p : k ≡ 6 * b + 3 + 2 = omega arith in rw p (ap (λ (g : GeneralizedImpulse). g.angular.z) e)
  numbers (suc (suc (suc (suc (suc (suc r)))))) h q = absurd (omega arith)

pub impulses_same : (g : ℕ → GeneralizedImpulse) (n : ℕ) (l m : List Float) → Impulses g n l → Impulses g n m → l ≡ m
impulses_same g n l m p q = ext_get_or nan l m (p.long ∙ sym q.long) (λ k h. at k (omega (arith, p.long)))
  where
    at : (k : ℕ) → k < 6 * n → get_or l k nan ≡ get_or m k nan
    at k h =
        let b = k / 6 in
        let s : b < n = omega arith in
        numbers l m b (p.at b s ∙ sym (q.at b s)) (k % 6) (omega arith) (omega arith)

pub impulses_flat : (g : ℕ → GeneralizedImpulse) (n : ℕ) (l : List Float) → Impulses g n l → l ≡ flat_impulses g n
impulses_flat g n l p = impulses_same g n l (flat_impulses g n) p (flat_holds g n)

-- impulses that agree have the same list
pub flat_same : (g h : ℕ → GeneralizedImpulse) (n : ℕ) → ((b : ℕ) → b < n → g b ≡ h b) → flat_impulses g n ≡ flat_impulses h n
flat_same g h n e = impulses_flat h n (flat_impulses g n) (record { long = flat_length g n; at = λ b k. flat_at g n b k ∙ e b k })
