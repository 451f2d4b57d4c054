-- Two methods whose parts agree on the steps that the first one comes through have the same answers, but for what f makes of a delivery. Assumes nothing.
use Prim.Native.Nat.{ℕ, zero, suc, ◌+◌}
use mathlib.Core.Path.{◌≡◌, refl, sym, ap, ◌∙◌, subst}
use mathlib.Core.Bool.{Bool, true, false}
use Rattle.loops.specs.Run.{Run, going, ended, on, next, check}
use Rattle.loops.proofs.Inverse.{apart, going_inj, next_going}
use Rattle.loops.proofs.Same.{turns_kept}
use Rattle.steps.specs.Alike.{Alike, delivering}
use Rattle.steps.specs.Method.{Method}
use Rattle.steps.specs.Steps.{ready, step_at}
use Rattle.steps.specs.Solve.{turn, after_loop, counting, deliver, solve}
use Rattle.steps.proofs.Steps.{step_of_ready}
use Rattle.steps.proofs.Turns.{Way, way}
use Rattle.steps.proofs.Turns.Way.{met, onward, unmade, unrenewed}
use Rattle.steps.proofs.Counting.{begun_ended, begun_met, first_ended, looped}
use Rattle.steps.proofs.Count.{Counts, counts}

-- what a turn makes of the step a
abbrev made : {S C : Type 0} → (S → Bool) → (S → Run C ℕ) → ℕ → Run S ℕ → Run (S × C) (Run (ℕ × S) ℕ)
made meets renew k a = on a (λ v. check (meets v) (ended (going (k + 1, v))) (on (renew v) (λ c. going (v, c)) (λ n. ended (ended n)))) (λ n. ended (ended n))

module _ {S C F G : Type 0} (m : Method S C F) (n : Method S C G) (P : S → Type 0) (f : F → G) (r : Alike m n P f) where
  step_kept : (k : ℕ) (v : S) → step_at m k ≡ going v → P v
  unfolding step_at
  step_kept zero v e = r.begun v e
  step_kept (suc k) v e =
      let (t, x, y) = (next_going (ready m k) (λ t. m.steps.advance t.0 t.1) v).0 e in
      r.kept t.0 v t.1 (step_kept k t.0 (step_of_ready m k t x)) y

  turn_same : (k : ℕ) (t : S × C) → P t.0 → turn n.steps k t ≡ turn m.steps k t
  unfolding turn on
  turn_same k t h = rw (r.advance t.0 t.1 h) (go (m.steps.advance t.0 t.1) (λ w. r.kept t.0 w t.1 h))
    where
      go : (a : Run S ℕ) → ((w : S) → a ≡ going w → P w) → made n.steps.meets (λ v. n.steps.renew v t.1) k a ≡ made m.steps.meets (λ v. m.steps.renew v t.1) k a
      go (going v) b = rw (r.meets v (b v refl), r.renew v t.1 (b v refl))
      go (ended a) b = refl

  -- the state after a turn is a step too
  turn_kept : (k : ℕ) (t u : S × C) → P t.0 → turn m.steps k t ≡ going u → P u.0
  turn_kept k t u h e = go (way m.steps k t)
    where
      go : Way m.steps k t → P u.0
      go (unmade n a q) = absurd (apart _ e q)
      go (met x a g q) = absurd (apart _ e q)
      go (unrenewed x n a g y q) = absurd (apart _ e q)
      go (onward x y a g z q) = subst (λ (p : S × C). P p.0) (going_inj (sym q ∙ e)) (r.kept t.0 x t.1 h a)

  counted_kept : (limit : ℕ) (a : Bool × ℕ × S) → counting m limit ≡ going a → P a.2
  counted_kept limit a e = go (subst (Counts m limit) e (counts m limit))
    where
      go : Counts m limit (going a) → P a.2
      go c = step_kept a.1 a.2 c.made

  counting_same : (limit : ℕ) (v : S) → n.begin ≡ m.begin → m.begin ≡ going v → counting n limit ≡ counting m limit
  counting_same limit v e h = go (m.steps.meets v) refl (m.first v) refl
    where
      q : P v
      q = r.begun v h

      go : (b : Bool) → m.steps.meets v ≡ b → (c : Run C ℕ) → m.first v ≡ c → counting n limit ≡ counting m limit
      go true x c y = begun_met n limit v (e ∙ h) (r.meets v q ∙ x) ∙ sym (begun_met m limit v h x)
      go false x (ended a) y = first_ended n limit v a (e ∙ h) (r.meets v q ∙ x) (r.first v q ∙ y) ∙ sym (first_ended m limit v a h x y)
      go false x (going c) y =
          looped n limit v c (e ∙ h) (r.meets v q ∙ x) (r.first v q ∙ y)
          ∙ ap (after_loop limit) (turns_kept (turn m.steps) (turn n.steps) (λ t. P t.0) (v, c) q turn_same turn_kept limit).0 ∙ sym (looped m limit v c h x y)

module _ {S C F G : Type 0} (m : Method S C F) (n : Method S C G) (P : S → Type 0) (f : F → G) where
  -- the parts after step 0 need agree only where there is a step 0
  pub solve_alike : (limit : ℕ) → n.opening limit ≡ m.opening limit → n.begin ≡ m.begin → ((v : S) → m.begin ≡ going v → Alike m n P f) → solve n limit ≡ delivering f (solve m limit)
  unfolding solve on
  solve_alike limit o e r = rw o (opened (m.opening limit))
    where
      given : (a : Bool × ℕ × S) (d : Run F ℕ) → next (next d (λ x. going (f x))) (λ x. going (a, x)) ≡ delivering f (next d (λ x. going (a, x)))
      given a (going d) = refl
      given a (ended k) = refl

      counted : Alike m n P f → (c : Run (Bool × ℕ × S) ℕ) → counting m limit ≡ c → next c (deliver n) ≡ delivering f (next c (deliver m))
      counted w (going a) x = ap (λ (d : Run G ℕ). next d (λ x. going (a, x))) (w.finish a.1 a.2 (counted_kept m n P f w limit a x)) ∙ given a (m.finish a.1 a.2)
      counted w (ended k) x = refl

      begun : (b : Run S ℕ) → m.begin ≡ b → next (counting n limit) (deliver n) ≡ delivering f (next (counting m limit) (deliver m))
      begun (going v) x = rw (counting_same m n P f (r v x) limit v e x) (counted (r v x) (counting m limit) refl)
      begun (ended k) x = rw (begun_ended n limit k (e ∙ x), begun_ended m limit k x)

      opened : (b : Run Unit ℕ) → next b (λ _. next (counting n limit) (deliver n)) ≡ delivering f (next b (λ _. next (counting m limit) (deliver m)))
      opened (going u) = begun m.begin refl
      opened (ended k) = refl

-- where the deliveries agree too, the answers are the same
module _ {S C F : Type 0} (m n : Method S C F) (P : S → Type 0) where
  as_delivered : {A : Type 0} (r : Run (A × F) ℕ) → delivering (λ d. d) r ≡ r
  unfolding on
  as_delivered (going a) = refl
  as_delivered (ended k) = refl

  pub solve_same : (limit : ℕ) → n.opening limit ≡ m.opening limit → n.begin ≡ m.begin → ((v : S) → m.begin ≡ going v → Alike m n P (λ d. d)) → solve n limit ≡ solve m limit
  solve_same limit o e r = solve_alike m n P (λ d. d) limit o e r ∙ as_delivered (solve m limit)
