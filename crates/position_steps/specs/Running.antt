-- What follows step 0: document 01, "If every |residual| ≤ its row's tolerance: accepted with count 0, before any factor is built. Then the recurrence".
use Rattle.std.specs.Prelude.{ℕ, Bool, true, false, List, Float}
use Rattle.loops.specs.Run.{Run, going, next, check, turns}
use Rattle.loops.specs.Cleared.{Free}
use Rattle.mass_operator.specs.System.{System}
use Rattle.preconditioner.specs.Factor.{factor_judged}
use Rattle.preconditioner.specs.Apply.{preconditioned}
use Rattle.preconditioner.specs.Room.{Memory}
use Rattle.preconditioner.specs.declared.mode.Mode.{Mode}
use Rattle.recurrence.specs.Step.{Iterate, Carried, advance_of, first_from}
use Rattle.position.specs.Residual.{meets_of}
use Rattle.steps.specs.Solve.{turn, after_loop}
use Rattle.solve_method.specs.Method.{steps_by}
use Rattle.position_iteration.specs.Standing.{StepsFree}

abbrev Steps : Type 0
Steps = Run (Bool × ℕ × Iterate) ℕ

-- from what is carried; z is that of a residual
unfoldable pub looping_by : (List Float → Run (List Float) ℕ) → System → (ℕ → Float) → ℕ → Iterate → Carried → Steps
looping_by z s tolerance limit v c = after_loop limit (turns (turn (steps_by z (advance_of s) s.rows tolerance)) (v, c) limit)

-- with the factor there
unfoldable pub stepping_by : (List Float → Run (List Float) ℕ) → System → (ℕ → Float) → ℕ → Iterate → Steps
stepping_by z s tolerance limit v = next (first_from (z v.residual) v.residual) (looping_by z s tolerance limit v)

-- where step 0 misses
unfoldable pub running_of : Mode → System → (ℕ → ℕ) → List Float → (ℕ → Float) → ℕ → Iterate → Steps
running_of mode s owner diagonal tolerance limit v = next (factor_judged mode s owner diagonal) (λ _. stepping_by (preconditioned mode s owner diagonal) s tolerance limit v)

-- the count 0 test before the factor or, for velocities, after it: "factors are built before the first convergence test"
unfoldable pub following_of : Bool → Mode → System → (ℕ → ℕ) → List Float → (ℕ → Float) → ℕ → Iterate → Steps
following_of false mode s owner diagonal tolerance limit v = check (meets_of tolerance v.residual s.rows) (going (true, 0, v)) (running_of mode s owner diagonal tolerance limit v)
following_of true mode s owner diagonal tolerance limit v = next (factor_judged mode s owner diagonal) (λ _. check (meets_of tolerance v.residual s.rows) (going (true, 0, v)) (stepping_by (preconditioned mode s owner diagonal) s tolerance limit v))

-- ---- what is written: the factor's memory, and what the steps write
pub record RunFree (before after : Memory) (body_impulses product pending residual direction bodyImpulses₁ product₁ pending₁ residual₁ direction₁ : List Float) : Type 0 where
  pub diagonal_free : Free before.diagonal after.diagonal
  pub pattern_free : Free before.pattern after.pattern
  pub order_free : Free before.order after.order
  pub values_free : Free before.values after.values
  pub steps_free : StepsFree body_impulses product pending residual direction bodyImpulses₁ product₁ pending₁ residual₁ direction₁
