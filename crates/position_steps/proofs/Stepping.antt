-- The ways from step 0 to the loop over the steps. Assumes nothing.
use Prim.Native.Nat.{ℕ, ◌<◌}
use mathlib.Core.Path.{◌≡◌, refl, sym, ap, ◌∙◌, subst}
use mathlib.Core.Bool.{Bool, true, false, not, ◌&&◌, true≢false, false≢true}
use mathlib.Core.List.{List}
use lib.ListN.{length}
use lib.Ieee.{Float}
use Rattle.loops.specs.Run.{Run, going, ended, on, next, check, turns}
use Rattle.loops.proofs.Loop.{on_going, on_ended}
use Rattle.mass_operator.specs.System.{System}
use Rattle.preconditioner.specs.Factor.{factor_judged}
use Rattle.preconditioner.specs.Apply.{preconditioned}
use Rattle.preconditioner.specs.Room.{Memory}
use Rattle.preconditioner.specs.Held.{Holds, z_in, prepared_out}
use Rattle.preconditioner.specs.declared.mode.Mode.{Mode}
use Rattle.preconditioner.specs.declared.apply.Preconditioner.{Preconditioner}
use Rattle.preconditioner.proofs.Means.{holds_same}
use Rattle.recurrence.specs.Step.{Iterate, Carried, advance_of, first_from}
use Rattle.recurrence.specs.Answers.{carried_out}
use Rattle.refusals.specs.Number.{number_of}
use Rattle.refusals.specs.declared.Refusal.{Refusal}
use Rattle.std.specs.Prelude.{Result, Ok, Err}
use Rattle.position.specs.Residual.{meets_of}
use Rattle.std.specs.Prelude.{Result, Ok, Err}
use Rattle.refusals.specs.Number.{number_of}
use Rattle.refusals.specs.declared.Refusal.{Refusal}
use Rattle.steps.specs.Solve.{turn, after_loop}
use Rattle.solve_method.specs.Method.{steps_by}
use Rattle.solve_method.proofs.Alike.{meets_same, same_turns}
use Rattle.position_steps.specs.Start.{start_out}
use Rattle.position_steps.specs.Running.{looping_by, stepping_by, running_of, following_of}

abbrev iterate : List Float → List Float → Iterate
iterate x r = record { solution = x; residual = r }

abbrev carried : List Float → Float → Carried
carried d s = record { direction = d; s = s }

abbrev Steps : Type 0
Steps = Run (Bool × ℕ × Iterate) ℕ

pub next_same : {S T A : Type 0} (r : Run S A) (f g : S → Run T A) → ((s : S) → f s ≡ g s) → next r f ≡ next r g
unfolding on
next_same (going s) f g h = h s
next_same (ended a) f g h = refl

-- ---- `step_on`, by the z of the memory
module _ (z : List Float → Run (List Float) ℕ) (s : System) (tolerance : ℕ → Float) (limit : ℕ) (x r : List Float) (q : Result Float Refusal) (d : List Float) (called : first_from (z r) r ≡ carried_out q d) where
  pub stepping_refused : (k : Refusal) → q ≡ Err k → stepping_by z s tolerance limit (iterate x r) ≡ ended (number_of k)
  unfolding stepping_by
  stepping_refused k e = on_ended _ _ _ (called ∙ rw e)

  pub stepping_on : (t : Float) {o : Steps} → q ≡ Ok t → after_loop limit (turns (turn (steps_by z (advance_of s) s.rows tolerance)) (iterate x r, carried d t) limit) ≡ o → stepping_by z s tolerance limit (iterate x r) ≡ o
  unfolding stepping_by looping_by
  stepping_on t e h = on_going _ _ _ {s = carried d t} (called ∙ rw e) ∙ h

pub first_same : (p : Preconditioner) (m : Memory) (k n : ℕ) (r : List Float) {o : Run Carried ℕ} → k ≡ n → first_from (z_in p k m r) r ≡ o → first_from (z_in p n m r) r ≡ o
first_same p m k n r {o} e h = subst (λ (i : ℕ). first_from (z_in p i m r) r ≡ o) e h

-- ---- by another z and other tolerances, where they agree
module _ (s : System) (z z' : List Float → Run (List Float) ℕ) (f g : ℕ → Float) (agree : (r : List Float) → length r ≡ s.rows → z r ≡ z' r) (same : (i : ℕ) → i < s.rows → f i ≡ g i) (limit : ℕ) (v : Iterate) (long : length v.residual ≡ s.rows) where
  pub stepping_same : stepping_by z s f limit v ≡ stepping_by z' s g limit v
  unfolding stepping_by looping_by
  stepping_same =
      ap (λ (y : Run (List Float) ℕ). next (first_from y v.residual) (λ c. after_loop limit (turns (turn (steps_by z (advance_of s) s.rows f)) (v, c) limit))) (agree v.residual long)
      ∙ next_same (first_from (z' v.residual) v.residual) _ _ (λ c. ap (after_loop limit) (same_turns s z z' f g agree same v c long limit))

-- ---- other tolerances that agree on the rows
pub following_same : (first : Bool) (mode : Mode) (s : System) (owner : ℕ → ℕ) (diagonal : List Float) (f g : ℕ → Float) (limit : ℕ) (v : Iterate) → ((i : ℕ) → i < s.rows → f i ≡ g i) → length v.residual ≡ s.rows → following_of first mode s owner diagonal f limit v ≡ following_of first mode s owner diagonal g limit v
unfolding following_of running_of
following_same first mode s owner diagonal f g limit v same long =
    let z = preconditioned mode s owner diagonal in
    let step : stepping_by z s f limit v ≡ stepping_by z s g limit v = stepping_same s z z f g (λ _ _. refl) same limit v long in
    let meets = meets_same s z z f g (λ _ _. refl) same v.residual in
    go first meets step
  where
    go : (b : Bool) → meets_of f v.residual s.rows ≡ meets_of g v.residual s.rows → stepping_by (preconditioned mode s owner diagonal) s f limit v ≡ stepping_by (preconditioned mode s owner diagonal) s g limit v → following_of b mode s owner diagonal f limit v ≡ following_of b mode s owner diagonal g limit v
    go true m h = rw (m, h)
    go false m h = rw (m, h)

-- ---- `run_steps`
module _ (first : Bool) (mode : Mode) (s : System) (owner : ℕ → ℕ) (diagonal : List Float) (tolerance : ℕ → Float) (limit : ℕ) (a : Result Unit Refusal) (x r : List Float) where
  abbrev following : Bool → Iterate → Steps
  following b = following_of b mode s owner diagonal tolerance limit

  abbrev ran : Steps
  ran = next (start_out a x r) (following first)

  pub run_refused : (e : Refusal) → a ≡ Err e → ran ≡ ended (number_of e)
  run_refused e q = on_ended _ _ _ {a = number_of e} (rw q)

  module _ (done : a ≡ Ok tt) (b : Bool) (eb : b ≡ meets_of tolerance r (length r)) (long : length r ≡ s.rows) where
    tested : (o : Bool) → b ≡ o → meets_of tolerance r s.rows ≡ o
    tested o e = rw (← long) (sym eb ∙ e)

    begins : {o : Steps} → following first (iterate x r) ≡ o → ran ≡ o
    begins h = on_going _ _ _ {s = iterate x r} (rw done) ∙ h

    -- met, where no factor comes first
    pub run_met : (b && not first) ≡ true → ran ≡ going (true, 0, iterate x r)
    unfolding following_of check
    run_met h = begins (go first b refl h)
      where
        go : (f c : Bool) → b ≡ c → (c && not f) ≡ true → following f (iterate x r) ≡ going (true, 0, iterate x r)
        go false true e q = rw (tested true e)
        go true true e q = absurd (false≢true q)
        go f false e q = absurd (false≢true q)

    -- the factor is refused, whether it comes first or step 0 misses
    module _ (f : Run Preconditioner ℕ) (answered : factor_judged mode s owner diagonal ≡ prepared_out f) where
      pub run_unbuilt : (k : ℕ) → (b && not first) ≡ false → f ≡ ended k → ran ≡ ended k
      unfolding following_of running_of check
      run_unbuilt k h e = begins (go first b refl h)
        where
          refused : factor_judged mode s owner diagonal ≡ ended k
          refused = answered ∙ rw e

          go : (g c : Bool) → b ≡ c → (c && not g) ≡ false → following g (iterate x r) ≡ ended k
          go true c q n = on_ended _ _ _ {a = k} refused
          go false true q n = absurd (true≢false n)
          go false false q n = rw (tested false q) (on_ended _ _ _ {a = k} refused)

      module _ (p : Preconditioner) (built : f ≡ going p) where
        stands : factor_judged mode s owner diagonal ≡ going tt
        stands = answered ∙ rw built

        -- met, where the factor came first
        pub run_built : (b && not first) ≡ false → b ≡ true → ran ≡ going (true, 0, iterate x r)
        unfolding following_of check
        run_built n e = begins (go first b refl e n)
          where
            go : (g c : Bool) → b ≡ c → c ≡ true → (c && not g) ≡ false → following g (iterate x r) ≡ going (true, 0, iterate x r)
            go true c q y n = on_going _ _ _ {s = tt} stands ∙ rw (tested true (q ∙ y))
            go false true q y n = absurd (true≢false n)
            go false false q y n = absurd (false≢true y)

        pub run_on : (m : Memory) {o : Steps} → b ≡ false → Holds s owner diagonal m mode p → stepping_by (z_in p s.rows m) s tolerance limit (iterate x r) ≡ o → ran ≡ o
        unfolding following_of running_of check
        run_on m {o} miss h q = begins (go first)
          where
            step : stepping_by (preconditioned mode s owner diagonal) s tolerance limit (iterate x r) ≡ o
            step = sym (stepping_same s (z_in p s.rows m) (preconditioned mode s owner diagonal) tolerance tolerance (λ y l. holds_same s owner diagonal m y l mode p h) (λ _ _. refl) limit (iterate x r) long) ∙ q

            go : (g : Bool) → following g (iterate x r) ≡ o
            go true = on_going _ _ _ {s = tt} stands ∙ rw (tested false miss) step
            go false = rw (tested false miss) (on_going _ _ _ {s = tt} stands ∙ step)
