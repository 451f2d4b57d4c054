-- The loop's turns are document 01's steps, as long as these miss. Assumes nothing.
use Prim.Native.Nat.{◌+◌, suc, zero, ℕ}
use mathlib.Core.Bool.{false, true}
use mathlib.Core.Logic.{◌⊎◌, inl, inr}
use mathlib.Core.Path.{◌∙◌, ◌≡◌, ap, sym}
use native.Mathlib.Omega.{arith}
use borrow.Author.Count.{below_more, below_none}
use Rattle.loops.proofs.Inverse.{apart, going_inj, next_going, saw, saw_bool}
use Rattle.loops.proofs.Loop.{on_going}
use Rattle.loops.specs.Run.{Goes, check, ended, going, on, turns}
use Rattle.steps.proofs.Steps.{miss, missed, ready_onward, ready_unrenewed, step_after}
use Rattle.steps.specs.Method.{Method, Recurrence}
use Rattle.steps.specs.Solve.{turn}
use Rattle.steps.specs.Steps.{AllMiss, ready, step_at}

module _ {S C : Type 0} (r : Recurrence S C) where
  -- ---- the four ways of a turn: the step is refused, it meets, its renewal is refused, or the loop goes on
  pub data Way (k : ℕ) (u : S × C) : Type 0 where
    unmade : (n : ℕ) → r.advance u.0 u.1 ≡ ended n → turn r k u ≡ ended (ended n) → Way k u
    met : (v : S) → r.advance u.0 u.1 ≡ going v → r.meets v ≡ true → turn r k u ≡ ended (going (k + 1, v)) → Way k u
    unrenewed : (v : S) (n : ℕ) → r.advance u.0 u.1 ≡ going v → r.meets v ≡ false → r.renew v u.1 ≡ ended n → turn r k u ≡ ended (ended n) → Way k u
    onward : (v : S) (c : C) → r.advance u.0 u.1 ≡ going v → r.meets v ≡ false → r.renew v u.1 ≡ going c → turn r k u ≡ going (v, c) → Way k u

  pub way : (k : ℕ) (u : S × C) → Way k u
  unfolding turn on check
  way k u = by_advance (saw (r.advance u.0 u.1))
    where
      by_renew : (v : S) → r.advance u.0 u.1 ≡ going v → r.meets v ≡ false → (Goes (r.renew v u.1) ⊎ ((n : ℕ) × (r.renew v u.1 ≡ ended n))) → Way k u
      by_renew v a b (inl s) = onward v s.0 a b s.1 (rw (a, b, s.1))
      by_renew v a b (inr s) = unrenewed v s.0 a b s.1 (rw (a, b, s.1))

      by_meets : (v : S) → r.advance u.0 u.1 ≡ going v → ((r.meets v ≡ true) ⊎ (r.meets v ≡ false)) → Way k u
      by_meets v a (inl b) = met v a b (rw (a, b))
      by_meets v a (inr b) = by_renew v a b (saw (r.renew v u.1))

      by_advance : (Goes (r.advance u.0 u.1) ⊎ ((n : ℕ) × (r.advance u.0 u.1 ≡ ended n))) → Way k u
      by_advance (inl a) = by_meets a.0 a.1 (saw_bool (r.meets a.0))
      by_advance (inr a) = unmade a.0 a.1 (rw a.1)

module _ {S C F : Type 0} (m : Method S C F) (v : S) (c : C) (begun : m.begin ≡ going v) (misses : m.steps.meets v ≡ false) (carried : m.first v ≡ going c) where
  ready_none : ready m 0 ≡ going (v, c)
  unfolding ready on
  ready_none = rw (begun, carried)

  -- the loop's turns are the steps, and each that it passes misses
  pub turns_ready : (k : ℕ) (t : S × C) → turns (turn m.steps) (v, c) k ≡ going t → (ready m k ≡ going t) × AllMiss m (k + 1)
  unfolding turns step_at
  turns_ready zero t h = (ready_none ∙ ap going (going_inj h), below_more _ 0 (below_none _) (miss m 0 v begun misses))
  turns_ready (suc k) t h =
      let (u, e, p) = (next_going _ _ t).0 h in
      let (r, all) = turns_ready k u e in
      go u r all p (way m.steps k u)
    where
      go : (u : S × C) → ready m k ≡ going u → AllMiss m (k + 1) → turn m.steps k u ≡ going t → Way m.steps k u → (ready m (suc k) ≡ going t) × AllMiss m (suc k + 1)
      go u r all p (unmade n a w) = absurd (apart _ p w)
      go u r all p (met w a b q) = absurd (apart _ p q)
      go u r all p (unrenewed w n a b d q) = absurd (apart _ p q)
      go u r all p (onward w d a b e q) =
          (ready_onward m k u w d r a e ∙ ap going (going_inj (sym q ∙ p)), below_more _ (suc k) (λ j l. all j (omega arith)) (miss m (suc k) w (step_after m k u r ∙ a) b))

  -- and the steps, as long as they miss, are the loop's turns
  pub ready_turns : (k : ℕ) (t : S × C) → ready m k ≡ going t → AllMiss m (k + 1) → turns (turn m.steps) (v, c) k ≡ going t
  unfolding turns ready
  ready_turns zero t h all = ap going (going_inj (sym ready_none ∙ h))
  ready_turns (suc k) t h all =
      let (u, e, p) = (next_going _ _ t).0 h in
      on_going _ _ _ (ready_turns k u e (λ j l. all j (omega arith))) ∙ go u e (way m.steps k u)
    where
      go : (u : S × C) → ready m k ≡ going u → Way m.steps k u → turn m.steps k u ≡ going t
      go u r (unmade n a w) = let (x, s, _) = missed m (suc k) (all (suc k) (omega arith)) in absurd (apart _ s (step_after m k u r ∙ a))
      go u r (met w a b q) =
          let (x, s, f) = missed m (suc k) (all (suc k) (omega arith)) in
          let same = going_inj (sym (step_after m k u r ∙ a) ∙ s) in
          let z : ◌≡◌ {A = ℕ} 0 1 = cc in absurd (omega arith)
      go u r (unrenewed w n a b d q) = absurd (apart _ h (ready_unrenewed m k u w n r a d))
      go u r (onward w d a b e q) = q ∙ ap going (going_inj (sym (ready_onward m k u w d r a e) ∙ h))
