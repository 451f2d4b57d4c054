-- What `counting` computes is what demand 3 calls the count, or the refusal that stops it. Assumes nothing.
use Prim.Native.Nat.{◌+◌, ◌<◌, ◌≤◌, suc, zero, ℕ}
use mathlib.Core.Bool.{Bool, false, true, true≢false}
use mathlib.Core.Logic.{◌⊎◌, inl, inr, ⊎_elim}
use mathlib.Core.Path.{◌∙◌, ◌≡◌, ap, refl, subst, sym}
use native.Mathlib.Numerals.{add-one}
use native.Mathlib.Omega.{arith}
use borrow.Author.Count.{below_more, below_none}
use Rattle.loops.proofs.Inverse.{apart, ended_inj, going_inj, next_ended, next_going, saw, saw_bool, turns_ended}
use Rattle.loops.proofs.Loop.{at_stop, on_ended, on_going}
use Rattle.loops.specs.Run.{Goes, Run, check, ended, going, next, on, turns}
use Rattle.steps.proofs.Counting.{begun_ended, begun_met, first_ended, looped}
use Rattle.steps.proofs.Steps.{miss, missed, missing, ready_first, ready_unrenewed, step_after, step_of_ready}
use Rattle.steps.proofs.Turns.{Way, ready_turns, turns_ready, way}
use Rattle.steps.specs.Meaning.{Advancing, Counted, Renewing}
use Rattle.steps.specs.Method.{Method}
use Rattle.steps.specs.Solve.{after_loop, counting, turn}
use Rattle.steps.specs.Steps.{AllMiss, ready, step_at}
use Rattle.steps.proofs.Turns.Way.{met, onward, unmade, unrenewed}

module _ {S C F : Type 0} (m : Method S C F) where
  -- ---- what stops the count
  pub data Stopped (limit n : ℕ) : Type 0 where
    at_begin : step_at m 0 ≡ ended n → Stopped limit n
    at_renewal : Renewing m limit n → Stopped limit n
    at_step : Advancing m limit n → Stopped limit n

  -- what `counting` is to mean
  abbrev pub Counts : ℕ → Run (Bool × ℕ × S) ℕ → Type 0
  Counts limit (going a) = Counted m limit a.0 a.1 a.2
  Counts limit (ended n) = Stopped limit n

  module _ (limit : ℕ) where
    -- ---- what `counting` gives is counted, or stopped

    loop_counts : (v : S) (c : C) → m.begin ≡ going v → m.steps.meets v ≡ false → m.first v ≡ going c → (r : Run (S × C) (Run (ℕ × S) ℕ)) → turns (turn m.steps) (v, c) limit ≡ r → Counts limit (after_loop limit r)
    unfolding on
    loop_counts v c b f d (going t) h =
        let (r, all) = turns_ready m v c b f d limit t h in
        record {
          made = step_of_ready m limit t r;
          within = omega arith;
          earlier = λ j l. all j (omega arith);
          verdict = sym (missing m limit t.0 (step_of_ready m limit t r) (all limit (omega arith)));
          spent = λ _. refl;
          renewed = λ _. (t, r);
        }
    loop_counts v c b f d (ended (going w)) h =
        let (i, u, l, e, p) = (turns_ended _ _ limit (going w)).0 h in
        let (r, all) = turns_ready m v c b f d i u e in
        go i u l r all p (way m.steps i u)
      where
        go : (i : ℕ) (u : S × C) → i < limit → ready m i ≡ going u → AllMiss m (i + 1) → turn m.steps i u ≡ ended (going w) → Way m.steps i u → Counted m limit true w.0 w.1
        go i u l r all p (unmade n a q) = absurd (apart _ refl (ended_inj (sym p ∙ q)))
        go i u l r all p (met x a g q) =
            subst (λ x. Counted m limit true x.0 x.1) (going_inj (ended_inj (sym q ∙ p)))
            (record {
              made = rw add-one (step_after m i u r ∙ a);
              within = omega arith;
              earlier = all;
              verdict = sym g;
              spent = λ z. absurd (true≢false z);
              renewed = λ z. absurd (true≢false z);
            })
        go i u l r all p (unrenewed x n a g y q) = absurd (apart _ refl (ended_inj (sym p ∙ q)))
        go i u l r all p (onward x y a g z q) = absurd (apart _ q p)
    loop_counts v c b f d (ended (ended n)) h =
        let (i, u, l, e, p) = (turns_ended _ _ limit (ended n)).0 h in
        let (r, all) = turns_ready m v c b f d i u e in
        go i u l r all p (way m.steps i u)
      where
        go : (i : ℕ) (u : S × C) → i < limit → ready m i ≡ going u → AllMiss m (i + 1) → turn m.steps i u ≡ ended (ended n) → Way m.steps i u → Stopped limit n
        go i u l r all p (unmade k a q) = at_step (record { step = i; within = omega arith; missed = all; renewed = (u, r); refused = step_after m i u r ∙ (a ∙ ap ended (ended_inj (ended_inj (sym q ∙ p)))) })
        go i u l r all p (met x a g q) = absurd (apart _ refl (ended_inj (sym q ∙ p)))
        go i u l r all p (unrenewed x k a g y q) =
            at_renewal (record {
              step = suc i;
              within = omega arith;
              missed = below_more _ (suc i) (λ j b. all j (omega arith)) (miss m (suc i) x (step_after m i u r ∙ a) g);
              refused = ready_unrenewed m i u x k r a y ∙ ap ended (ended_inj (ended_inj (sym q ∙ p)));
            })
        go i u l r all p (onward x y a g z q) = absurd (apart _ q p)

    pub counts : Counts limit (counting m limit)
    unfolding step_at ready on
    counts = by_begin (saw m.begin)
      where
        by_first : (v : S) → m.begin ≡ going v → m.steps.meets v ≡ false → Goes (m.first v) ⊎ ((n : ℕ) × (m.first v ≡ ended n)) → Counts limit (counting m limit)
        by_first v b f (inl d) =
            subst (Counts limit) (sym (looped m limit v d.0 b f d.1)) (loop_counts v d.0 b f d.1 (turns (turn m.steps) (v, d.0) limit) refl)
        by_first v b f (inr d) =
            subst (Counts limit) (sym (first_ended m limit v d.0 b f d.1))
            (at_renewal (record { step = 0; within = omega arith; missed = below_more _ 0 (below_none _) (miss m 0 v b f); refused = rw (b, d.1) }))

        by_meets : (v : S) → m.begin ≡ going v → (m.steps.meets v ≡ true) ⊎ (m.steps.meets v ≡ false) → Counts limit (counting m limit)
        by_meets v b (inl f) =
            subst (Counts limit) (sym (begun_met m limit v b f))
            (record {
              made = b;
              within = omega arith;
              earlier = below_none _;
              verdict = sym f;
              spent = λ z. absurd (true≢false z);
              renewed = λ z. absurd (true≢false z);
            })
        by_meets v b (inr f) = by_first v b f (saw (m.first v))

        by_begin : Goes m.begin ⊎ ((n : ℕ) × (m.begin ≡ ended n)) → Counts limit (counting m limit)
        by_begin (inl b) = by_meets b.0 b.1 (saw_bool (m.steps.meets b.0))
        by_begin (inr b) = subst (Counts limit) (sym (begun_ended m limit b.0 b.1)) (at_begin b.1)

    -- ---- and what is counted, or stopped, `counting` gives

    stop : (k : ℕ) (u : S × C) (e : Run (ℕ × S) ℕ) → k < limit → AllMiss m (k + 1) → ready m k ≡ going u → turn m.steps k u ≡ ended e → counting m limit ≡ next e (λ w. going (true, w.0, w.1))
    unfolding step_at
    stop k u e l all r q =
        let (v, c, b, d) = ready_first m k u r in
        let f = missing m 0 v b (all 0 (omega arith)) in
        let t = ready_turns m v c b f d k u r all in
        looped m limit v c b f d ∙ on_ended _ _ _ (at_stop (record { within = omega arith; led = t }) l q)

    renewal_counting : (k n : ℕ) → k ≤ limit → AllMiss m (k + 1) → ready m k ≡ ended n → counting m limit ≡ ended n
    unfolding ready step_at on turn check
    renewal_counting zero n l all h =
        let (v, b, f) = missed m 0 (all 0 (omega arith)) in
        first_ended m limit v n b f
        (⊎_elim (λ d. d) (λ d. absurd (apart _ refl d.2)) ((next_ended (m.first v) _ n).0 (sym (on_going _ _ _ b) ∙ h)))
    renewal_counting (suc k) n l all h =
        let (v, s, f) = missed m (suc k) (all (suc k) (omega arith)) in
        let (u, r, a) = (next_going (ready m k) _ v).0 s in
        let p = sym (on_going _ _ _ a) ∙ (sym (on_going _ _ _ r) ∙ h) in
        let d : m.steps.renew v u.1 ≡ ended n = ⊎_elim (λ d. d) (λ d. absurd (apart _ refl d.2)) ((next_ended (m.steps.renew v u.1) _ n).0 p) in
        stop k u (ended n) l (λ j b. all j (omega arith)) r (rw (a, f, d))

    pub stopped_counting : (n : ℕ) → Stopped limit n → counting m limit ≡ ended n
    unfolding step_at turn on
    stopped_counting n (at_begin h) = begun_ended m limit n h
    stopped_counting n (at_renewal h) = renewal_counting h.step n (omega arith) h.missed h.refused
    stopped_counting n (at_step h) =
        let (u, r) = h.renewed in
        let a = sym (step_after m h.step u r) ∙ h.refused in
        stop h.step u (ended n) (omega arith) h.missed r (rw a)

    pub counted_counting : (flag : Bool) (count : ℕ) (v : S) → Counted m limit flag count v → counting m limit ≡ going (flag, count, v)
    unfolding step_at turn on check
    counted_counting false k v h =
        let (t, r) = h.renewed refl in
        let (w, c, b, d) = ready_first m k t r in
        let all : AllMiss m (k + 1) = below_more _ k h.earlier (miss m k v h.made (sym h.verdict)) in
        let f = missing m 0 w b (all 0 (omega arith)) in
        let e : turns (turn m.steps) (w, c) limit ≡ going t = subst (λ i. turns (turn m.steps) (w, c) i ≡ going t) (h.spent refl) (ready_turns m w c b f d k t r all) in
        let same : t.0 ≡ v = going_inj (sym (step_of_ready m k t r) ∙ h.made) in
        looped m limit w c b f d ∙ (on_going _ _ _ e ∙ (λ i. going (false, sym (h.spent refl) i, same i)))
    counted_counting true zero v h = begun_met m limit v h.made (sym h.verdict)
    counted_counting true (suc k) v h =
        let (u, r, a) = (next_going _ _ v).0 h.made in
        stop k u (going (k + 1, v)) h.within (λ j b. h.earlier j (omega arith)) r (rw (a, sym h.verdict)) ∙ (λ i. going (true, add-one k i, v))
