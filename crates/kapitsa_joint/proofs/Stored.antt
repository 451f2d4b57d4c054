-- An impulse put into a slice and read out of it again, in the order of document 01 and in that of work memory. Assumes nothing.
use Prim.Native.Nat.{ℕ, ◌+◌, ◌*◌, ◌<◌, ◌≤◌}
use mathlib.Core.Path.{◌≡◌, sym, ◌∙◌}
use mathlib.Core.Bool.{Bool, true, false, not}
use lib.Dec.{T, ltb, ltb→lt, nltb→le}
use lib.Arith.{lt_of_le-ne}
use mathlib.Core.Logic.{◌⊎◌, inl, inr}
use mathlib.Core.List.{List}
use native.Mathlib.Omega.{arith}
use lib.ListN.{length}
use lib.Ieee.{Float}
use Rattle.kapitsa_math.specs.Lent.{vec_of, put_vec_of, spread_of, put_spread_of}
use Rattle.kapitsa_math.proofs.Stored.{put_vec_length, put_vec_same, put_vec_other, put_spread_length, put_spread_same, put_spread_other}
use Rattle.kapitsa_joint.specs.Impulse.{impulse_of, put_impulse_of, paired_of, put_paired_of}
use Rattle.kapitsa_joint.specs.declared.impulse.GeneralizedImpulse.{GeneralizedImpulse}

-- the slice keeps its length
pub put_impulse_length : (l : List Float) (b : ℕ) (g : GeneralizedImpulse) → length (put_impulse_of l b g) ≡ length l
unfolding put_impulse_of
put_impulse_length l b g = put_vec_length (put_vec_of l (6 * b) g.linear) (6 * b + 3) g.angular ∙ put_vec_length l (6 * b) g.linear

-- it is there, and every other body's is as it was
pub put_impulse_same : (l : List Float) (b : ℕ) (g : GeneralizedImpulse) → 6 * b + 6 ≤ length l → impulse_of (put_impulse_of l b g) b ≡ g
unfolding put_impulse_of impulse_of
put_impulse_same l b g h =
    let m = put_vec_of l (6 * b) g.linear in
    let n = put_vec_length l (6 * b) g.linear in
    let x : vec_of (put_vec_of m (6 * b + 3) g.angular) (6 * b) ≡ g.linear = put_vec_other m (6 * b + 3) g.angular (6 * b) (inl (omega arith)) ∙ put_vec_same l (6 * b) g.linear (omega arith) in
    let y : vec_of (put_vec_of m (6 * b + 3) g.angular) (6 * b + 3) ≡ g.angular = put_vec_same m (6 * b + 3) g.angular (omega arith) in
    rw (x, y)

-- two bodies that differ: one comes first
order : (b c : ℕ) → (b ≡ c → ⊥) → (b < c) ⊎ (c < b)
order b c h = go (ltb b c) (ltb→lt b c) (nltb→le b c)
  where
    go : (t : Bool) → (T t → b < c) → (T (not t) → c ≤ b) → (b < c) ⊎ (c < b)
    go true y n = inl (y tt)
    go false y n = inr (lt_of_le-ne (n tt) (λ e. h (sym e)))

pub put_impulse_other : (l : List Float) (b : ℕ) (g : GeneralizedImpulse) (c : ℕ) → (b ≡ c → ⊥) → impulse_of (put_impulse_of l b g) c ≡ impulse_of l c
unfolding put_impulse_of impulse_of
put_impulse_other l b g c h = rw (kept (6 * c) (side (6 * c) (omega arith) (omega arith) (order b c h)), kept (6 * c + 3) (side (6 * c + 3) (omega arith) (omega arith) (order b c h)))
  where
    kept : (k : ℕ) → (k + 3 ≤ 6 * b) ⊎ (6 * b + 6 ≤ k) → vec_of (put_vec_of (put_vec_of l (6 * b) g.linear) (6 * b + 3) g.angular) k ≡ vec_of l k
    kept k (inl p) = put_vec_other (put_vec_of l (6 * b) g.linear) (6 * b + 3) g.angular k (inl (omega arith)) ∙ put_vec_other l (6 * b) g.linear k (inl p)
    kept k (inr p) = put_vec_other (put_vec_of l (6 * b) g.linear) (6 * b + 3) g.angular k (inr (omega arith)) ∙ put_vec_other l (6 * b) g.linear k (inr (omega arith))

    side : (k : ℕ) → 6 * c ≤ k → k ≤ 6 * c + 3 → (b < c) ⊎ (c < b) → (k + 3 ≤ 6 * b) ⊎ (6 * b + 6 ≤ k)
    side k p q (inl l) = inr (omega arith)
    side k p q (inr r) = inl (omega arith)

-- ---- linear and angular numbers side by side
pub put_paired_length : (l : List Float) (b : ℕ) (g : GeneralizedImpulse) → length (put_paired_of l b g) ≡ length l
unfolding put_paired_of
put_paired_length l b g = put_spread_length (put_spread_of l (6 * b) g.linear) (6 * b + 1) g.angular ∙ put_spread_length l (6 * b) g.linear

pub put_paired_same : (l : List Float) (b : ℕ) (g : GeneralizedImpulse) → 6 * b + 6 ≤ length l → paired_of (put_paired_of l b g) b ≡ g
unfolding put_paired_of paired_of
put_paired_same l b g h =
    let m = put_spread_of l (6 * b) g.linear in
    let n = put_spread_length l (6 * b) g.linear in
    let x : spread_of (put_spread_of m (6 * b + 1) g.angular) (6 * b) ≡ g.linear = put_spread_other m (6 * b + 1) g.angular (6 * b) (between (6 * b)) ∙ put_spread_same l (6 * b) g.linear (omega arith) in
    let y : spread_of (put_spread_of m (6 * b + 1) g.angular) (6 * b + 1) ≡ g.angular = put_spread_same m (6 * b + 1) g.angular (omega arith) in
    rw (x, y)
  where
    between : (k i j : ℕ) → i < 3 → j < 3 → k + 2 * i ≡ k + 1 + 2 * j → ⊥
    between k i j p q e = omega arith

pub put_paired_other : (l : List Float) (b : ℕ) (g : GeneralizedImpulse) (c : ℕ) → (b ≡ c → ⊥) → paired_of (put_paired_of l b g) c ≡ paired_of l c
unfolding put_paired_of paired_of
put_paired_other l b g c h = rw (kept (6 * c) (side (6 * c) (omega arith) (omega arith) (order b c h)), kept (6 * c + 1) (side (6 * c + 1) (omega arith) (omega arith) (order b c h)))
  where
    kept : (k : ℕ) → (k + 5 ≤ 6 * b) ⊎ (6 * b + 6 ≤ k) → spread_of (put_spread_of (put_spread_of l (6 * b) g.linear) (6 * b + 1) g.angular) k ≡ spread_of l k
    kept k (inl p) = put_spread_other (put_spread_of l (6 * b) g.linear) (6 * b + 1) g.angular k (λ i j s t e. omega arith) ∙ put_spread_other l (6 * b) g.linear k (λ i j s t e. omega arith)
    kept k (inr p) = put_spread_other (put_spread_of l (6 * b) g.linear) (6 * b + 1) g.angular k (λ i j s t e. omega arith) ∙ put_spread_other l (6 * b) g.linear k (λ i j s t e. omega arith)

    side : (k : ℕ) → 6 * c ≤ k → k ≤ 6 * c + 1 → (b < c) ⊎ (c < b) → (k + 5 ≤ 6 * b) ⊎ (6 * b + 6 ≤ k)
    side k p q (inl l) = inr (omega arith)
    side k p q (inr r) = inl (omega arith)
