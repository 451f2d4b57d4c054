-- The ways through a step, the loop over the steps, and what leads to it. Assumes nothing.
use Prim.Native.Nat.{ℕ, ◌+◌, ◌<◌, ◌≤◌}
use mathlib.Core.Path.{◌≡◌, refl, sym, ap, ◌∙◌, subst}
use mathlib.Core.Bool.{Bool, true, false, not}
use mathlib.Core.List.{List}
use lib.ListN.{length}
use lib.Ieee.{Float}
use Rattle.loops.specs.Run.{Run, going, ended, check, turns}
use borrow.Author.Tests.{not-true, not-false}
use Rattle.loops.proofs.Loop.{on_going, on_ended, At, at_more, at_stop, at_end}
use Rattle.loops.proofs.Inverse.{apart, ended_inj}
use Rattle.mass_operator.specs.System.{System, compact_system}
use Rattle.mass_operator.specs.Applied.{all_finite_of}
use Rattle.preconditioner.specs.Room.{Memory}
use Rattle.preconditioner.specs.Held.{z_in}
use Rattle.preconditioner.specs.declared.apply.Preconditioner.{Preconditioner}
use Rattle.recurrence.specs.Step.{Iterate, Carried, advance_of, renew_from}
use Rattle.recurrence.specs.Parts.{length_of, moved_of}
use Rattle.recurrence.specs.Answers.{carried_out, ProductLeft}
use Rattle.recurrence.proofs.Residual.{residual_overflow}
use Rattle.recurrence.proofs.Together.{moved_refused, moved_finite, moved_overflow, advance_refused, advance_along}
use Rattle.refusals.specs.Number.{number_of}
use Rattle.refusals.specs.Told.{told}
use Rattle.refusals.specs.declared.Refusal.{Refusal}
use Rattle.refusals.specs.declared.Refusal.TheVariants as refusals
use Rattle.std.specs.Prelude.{Result, Ok, Err, Option, Some, None}
use Rattle.position.specs.Residual.{meets_of}
use Rattle.steps.specs.Method.{Recurrence}
use Rattle.steps.specs.Solve.{turn, after_loop}
use Rattle.solve_method.specs.Method.{steps_by}
use Rattle.position_iteration.specs.Standing.{along, TurnIs, iterated_out}

abbrev iterate : List Float → List Float → Iterate
iterate x r = record { solution = x; residual = r }

abbrev carried : List Float → Float → Carried
carried d s = record { direction = d; s = s }

-- ---- a turn from its length on
module _ (z : List Float → Run (List Float) ℕ) (n bodies : ℕ) (jacobians : List Float) (links : List ℕ) (masses : List Float) (tolerance : ℕ → Float) (v : Iterate) (c : Carried) (k : ℕ) (rows : k ≡ n) (q : Result Float Refusal) (found : length_of (compact_system k bodies jacobians links masses) c ≡ told q) where
  abbrev s : System
  s = compact_system n bodies jacobians links masses

  long : length_of s c ≡ told q
  long = rw rows at found

  pub turn_refused : (refusal : Refusal) (x r d : List Float) → q ≡ Err refusal → TurnIs (steps_by z (advance_of s) n tolerance) (v, c) (Err refusal) x r d
  unfolding turn
  turn_refused refusal x r d t = record { at = λ j. on_ended _ _ _ {a = number_of refusal} (advance_refused s v c (number_of refusal) (long ∙ rw t)) }

  pub turn_along : (alpha : Float) (impulses product : List Float) → q ≡ Ok alpha → ProductLeft (compact_system k bodies jacobians links masses) c.direction impulses product → (a : Result (Option Float) Refusal) (x r d : List Float)
      → TurnIs (steps_by z (along product alpha) n tolerance) (v, c) a x r d → TurnIs (steps_by z (advance_of s) n tolerance) (v, c) a x r d
  unfolding turn
  turn_along alpha impulses product t left a x r d h = record { at = λ j. rw (advance_along s v c alpha product (long ∙ rw t) (rw rows at left.multiplied)) (h.at j) }

-- ---- a step along its direction: the residual is tested where it meets, and by what follows where it misses
module _ (z : List Float → Run (List Float) ℕ) (n : ℕ) (tolerance : ℕ → Float) (v : Iterate) (c : Carried) (product : List Float) (alpha : Float) (x r : List Float) where
  pub step_refused : (k : Refusal) (d : List Float) → moved_of v c.direction product alpha ≡ ended (number_of k) → TurnIs (steps_by z (along product alpha) n tolerance) (v, c) (Err k) x r d
  unfolding turn
  step_refused k d t = record { at = λ j. on_ended _ _ _ {a = number_of k} (moved_refused v c.direction product alpha (number_of k) t) }

  module _ (made : moved_of v c.direction product alpha ≡ going (iterate x r)) where
    finite_step : all_finite_of r ≡ true → along product alpha v c ≡ going (iterate x r)
    finite_step f = moved_finite v c.direction product alpha (iterate x r) made f

    overflow_step : all_finite_of r ≡ false → along product alpha v c ≡ ended 16
    overflow_step f = moved_overflow v c.direction product alpha (iterate x r) made f

    pub step_overflow : (d : List Float) (f : Bool) → f ≡ all_finite_of r → not f ≡ true → TurnIs (steps_by z (along product alpha) n tolerance) (v, c) (Err refusals.Step) x r d
    unfolding turn
    step_overflow d f ef h = record { at = λ j. on_ended _ _ _ {a = 16} (overflow_step (sym ef ∙ not-true f h)) }

    module _ (b : Bool) (eb : b ≡ meets_of tolerance r (length r)) (long : length r ≡ n) where
      tested : (o : Bool) → b ≡ o → meets_of tolerance r n ≡ o
      tested o e = rw (← long) (sym eb ∙ e)

      pub step_met : (d : List Float) (f : Bool) → f ≡ all_finite_of r → not f ≡ false → b ≡ true → TurnIs (steps_by z (along product alpha) n tolerance) (v, c) (Ok None) x r d
      unfolding turn check
      step_met d f ef h e = record { at = λ j. on_going _ _ _ {s = iterate x r} (finite_step (sym ef ∙ not-false f h)) ∙ rw (tested true e) }

      module _ (miss : b ≡ false) (sixteen : (n : ℕ) → z r ≡ ended n → n ≡ 16) (q : Result Float Refusal) (d : List Float) (renewed : renew_from (z r) r c ≡ carried_out q d) where
        refused : all_finite_of r ≡ false → renew_from (z r) r c ≡ ended 16
        refused f = residual_overflow (z r) sixteen r c f

        pub step_on : (t : Float) → q ≡ Ok t → TurnIs (steps_by z (along product alpha) n tolerance) (v, c) (Ok (Some t)) x r d
        unfolding turn check
        step_on t e = by (all_finite_of r) refl
          where
            by : (f : Bool) → all_finite_of r ≡ f → TurnIs (steps_by z (along product alpha) n tolerance) (v, c) (Ok (Some t)) x r d
            by true f = record { at = λ j. on_going _ _ _ {s = iterate x r} (finite_step f) ∙ rw (tested false miss) (on_going _ _ _ {s = carried d t} (renewed ∙ rw e)) }
            by false f = absurd (apart (renew_from (z r) r c) {s = carried d t} {a = 16} (renewed ∙ rw e) (refused f))

        pub step_out : (k : Refusal) → q ≡ Err k → TurnIs (steps_by z (along product alpha) n tolerance) (v, c) (Err k) x r d
        unfolding turn check
        step_out k e = by (all_finite_of r) refl
          where
            by : (f : Bool) → all_finite_of r ≡ f → TurnIs (steps_by z (along product alpha) n tolerance) (v, c) (Err k) x r d
            by true f = record { at = λ j. on_going _ _ _ {s = iterate x r} (finite_step f) ∙ rw (tested false miss) (on_ended _ _ _ {a = number_of k} (renewed ∙ rw e)) }
            by false f =
                let same : 16 ≡ number_of k = ended_inj (sym (refused f) ∙ renewed ∙ rw e) in
                record { at = λ j. on_ended _ _ _ {a = number_of k} (overflow_step f ∙ ap ended same) }

-- the vectors are as long as there are rows
pub renew_same : (p : Preconditioner) (m : Memory) (k n : ℕ) (r : List Float) (c : Carried) {o : Run Carried ℕ} → k ≡ n → renew_from (z_in p k m r) r c ≡ o → renew_from (z_in p n m r) r c ≡ o
renew_same p m k n r c {o} e h = subst (λ (i : ℕ). renew_from (z_in p i m r) r c ≡ o) e h

-- ---- `iterate`
module _ (m : Recurrence Iterate Carried) (v : Iterate) (c : Carried) (limit k : ℕ) (w : Iterate) (e : Carried) (h : At (turn m) (v, c) limit k (w, e)) (l : k < limit) (a : Result (Option Float) Refusal) (x r d : List Float) (called : TurnIs m (w, e) a x r d) where
  pub loop_on : (z : Float) → a ≡ Ok (Some z) → At (turn m) (v, c) limit (k + 1) (iterate x r, carried d z)
  loop_on z t = at_more h l (called.at k ∙ rw t)

  pub loop_met : a ≡ Ok None → after_loop limit (turns (turn m) (v, c) limit) ≡ iterated_out (Ok (Some (k + 1))) limit x r
  loop_met t = on_ended _ _ _ {a = going (k + 1, iterate x r)} (at_stop h l (called.at k ∙ rw t)) ∙ on_going _ _ _ refl

  pub loop_refused : (n : Refusal) → a ≡ Err n → after_loop limit (turns (turn m) (v, c) limit) ≡ iterated_out (Err n) limit x r
  loop_refused n t = on_ended _ _ _ {a = ended (number_of n)} (at_stop h l (called.at k ∙ rw t)) ∙ on_ended _ _ _ refl

pub loop_spent : (m : Recurrence Iterate Carried) (v : Iterate) (c : Carried) (limit k : ℕ) (x r : List Float) (e : Carried) → At (turn m) (v, c) limit k (iterate x r, e) → limit ≤ k → after_loop limit (turns (turn m) (v, c) limit) ≡ iterated_out (Ok None) limit x r
loop_spent m v c limit k x r e h l = on_going _ _ _ (at_end h l)
