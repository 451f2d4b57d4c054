-- What the count promises.
use Rattle.std.specs.Prelude.{ℕ, ◌≡◌, true, List, Float, Result, Option}
use Rattle.loops.specs.Cleared.{Free}
use Rattle.preconditioner.specs.declared.mode.Mode.{Mode}
use Rattle.position.specs.Problem.{Problem}
use Rattle.loops.specs.Run.{next}
use Rattle.steps.specs.Solve.{counting}
use Rattle.solve_method.specs.Method.{method_of}
use Rattle.position_iteration.specs.Standing.{iterated_out}
use Rattle.position_iteration.specs.Stands.{StandsAfter}
use Rattle.work_memory.specs.Work.{StepMemory, TableMemory, cleared_steps}
use Rattle.refusals.specs.Told.{told}
use Rattle.refusals.specs.declared.Refusal.{Refusal}

-- by what was judged before step 0, flag, count and step are the definition's, the compact table stands where nothing was refused, and what the count alone uses is cleared
pub record CountHeld (mode : Mode) (p : Problem) (opened : Result Unit Refusal) (limit : ℕ) (masses : List Float) (answer : Result (Option ℕ) Refusal) (jacobians : List Float) (links : List ℕ) (pending residual : List Float) (before after : StepMemory) : Type 0 where
  pub answered : next (told opened) (λ _. counting (method_of true p mode) limit) ≡ iterated_out answer limit pending residual
  pub counted : StandsAfter p.table masses answer jacobians links
  pub memory : after ≡ cleared_steps before

-- what the count leaves to the delivery: after a refusal nothing else is told of it, and of the impulses nothing at all
pub record CountFree (before after : TableMemory) : Type 0 where
  pub jacobians_free : Free before.jacobians after.jacobians
  pub links_free : Free before.links after.links
  pub residual_free : Free before.residual after.residual
  pub pending_free : Free before.pending after.pending
  pub body_impulses_free : Free before.body_impulses after.body_impulses
