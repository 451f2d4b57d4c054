-- What a solve promises: its answer with what is lent, what the answer means, and its work memory.
use Rattle.std.specs.Prelude.{ℕ, ◌≡◌, Bool}
use Rattle.preconditioner.specs.declared.mode.Mode.{Mode}
use Rattle.position.specs.Problem.{Problem}
use Rattle.steps.specs.Solve.{solve}
use Rattle.steps.specs.InPlace.{InPlace}
use Rattle.solve_method.specs.Method.{method_of}
use Rattle.solve_method.specs.Places.{places_of}
use Rattle.position_delivery.specs.Outcome.{Lent, outcome_at, MeaningAt}
use Rattle.loops.specs.Run.{Run}
use Rattle.position_delivery.specs.declared.answer.PositionPcgResult.{PositionPcgResult}
use Rattle.work_memory.specs.Work.{WorkMemory, After}

-- of n rows, whose number at this place grows; `fits` is whether refusal 3 passes
pub record SolveHeld (fits : Bool) (p : Problem) (mode : Mode) (limit place n : ℕ) (before after : Lent) (answer : Run PositionPcgResult ℕ) (work workAfter : WorkMemory) : Type 0 where
  pub answered : outcome_at place n before (solve (method_of fits p mode) limit) ≡ record { answer = answer; lent = after }  -- the answer and every lent number are the definition's, of refused calls too
  pub means : MeaningAt (method_of fits p mode) limit place n before answer after  -- demand 3
  pub in_place : InPlace (method_of fits p mode) (places_of p) limit  -- each refusal exactly in its place
  pub memory : After fits work workAfter
