-- Laws of the steps: when one meets or misses, and how one follows from another. Assumes nothing.
use Prim.Native.Nat.{suc, zero, ℕ}
use mathlib.Core.Bool.{false, false≢true, not, true, true≢false}
use mathlib.Core.Path.{◌∙◌, ◌≡◌, ap, refl, sym}
use borrow.Author.Tests.{not-true}
use Rattle.loops.proofs.Inverse.{going_inj, next_going}
use Rattle.loops.proofs.Loop.{on_going}
use Rattle.loops.specs.Run.{Run, ended, going, on}
use Rattle.steps.specs.Method.{Method}
use Rattle.steps.specs.Steps.{meets_at, misses_at, ready, step_at}

module _ {S C F : Type 0} (m : Method S C F) where
  -- ---- a step that is there meets or misses

  pub miss : (k : ℕ) (v : S) → step_at m k ≡ going v → m.steps.meets v ≡ false → misses_at m k ≡ true
  unfolding misses_at on
  miss k v h e = rw (h, e)

  pub missed : (k : ℕ) → misses_at m k ≡ true → (v : S) × (step_at m k ≡ going v) × (m.steps.meets v ≡ false)
  unfolding misses_at on
  missed k h = go (step_at m k) refl h
    where
      go : (r : Run S ℕ) → step_at m k ≡ r → on r (λ v. not (m.steps.meets v)) (λ _. false) ≡ true → (v : S) × (step_at m k ≡ going v) × (m.steps.meets v ≡ false)
      go (going v) e p = (v, e, not-true (m.steps.meets v) p)
      go (ended n) e p = absurd (false≢true p)

  pub missing : (k : ℕ) (v : S) → step_at m k ≡ going v → misses_at m k ≡ true → m.steps.meets v ≡ false
  unfolding misses_at on
  missing k v h e = not-true (m.steps.meets v) (rw h at e)

  pub meets_of_lem : (k : ℕ) (v : S) → step_at m k ≡ going v → meets_at m k ≡ m.steps.meets v
  unfolding meets_at on
  meets_of_lem k v h = rw h

  pub missed_or_met : (k : ℕ) → misses_at m k ≡ true → meets_at m k ≡ true → ⊥
  missed_or_met k h e = let (v, s, f) = missed k h in true≢false (sym e ∙ (meets_of_lem k v s ∙ f))

  -- ---- a step that is ready, the one after it, and the first

  pub step_of_ready : (k : ℕ) (t : S × C) → ready m k ≡ going t → step_at m k ≡ going t.0
  unfolding ready step_at
  step_of_ready zero t h =
      let (v, e, p) = (next_going _ _ t).0 h in
      let (c, _, q) = (next_going _ _ t).0 p in
      e ∙ ap (λ x. going x.0) (going_inj q)
  step_of_ready (suc k) t h =
      let (u, e, p) = (next_going _ _ t).0 h in
      let (v, a, q) = (next_going _ _ t).0 p in
      let (c, _, z) = (next_going _ _ t).0 q in
      on_going _ _ _ e ∙ (a ∙ ap (λ x. going x.0) (going_inj z))

  pub step_after : (k : ℕ) (u : S × C) → ready m k ≡ going u → step_at m (suc k) ≡ m.steps.advance u.0 u.1
  unfolding step_at on
  step_after k u r = rw r

  -- how a step that is ready is renewed after one more
  pub ready_onward : (k : ℕ) (u : S × C) (v : S) (c : C) → ready m k ≡ going u → m.steps.advance u.0 u.1 ≡ going v → m.steps.renew v u.1 ≡ going c → ready m (suc k) ≡ going (v, c)
  unfolding ready on
  ready_onward k u v c r a b = rw (r, a, b)

  pub ready_unrenewed : (k : ℕ) (u : S × C) (v : S) (n : ℕ) → ready m k ≡ going u → m.steps.advance u.0 u.1 ≡ going v → m.steps.renew v u.1 ≡ ended n → ready m (suc k) ≡ ended n
  unfolding ready on
  ready_unrenewed k u v n r a b = rw (r, a, b)

  -- a step that is ready has a step 0 that is
  pub ready_first : (k : ℕ) (u : S × C) → ready m k ≡ going u → (v : S) × (c : C) × (m.begin ≡ going v) × (m.first v ≡ going c)
  unfolding ready
  ready_first zero u h =
      let (v, b, p) = (next_going _ _ u).0 h in
      let (c, d, _) = (next_going _ _ u).0 p in
      (v, c, b, d)
  ready_first (suc k) u h = let (t, e, _) = (next_going _ _ u).0 h in ready_first k t e
