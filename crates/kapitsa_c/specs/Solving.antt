-- What a solve tells C: 0 with count, flag and maxima, or the refusal's number, and then nothing else.
use Rattle.std.specs.Prelude.{ℕ, ◌≡◌, Bool, cond, ◌&&◌, List, [], ◌∷◌, ◌↔◌, eqb, length, Float}
use Rattle.preconditioner.specs.declared.mode.Mode.{Mode}
use Rattle.steps.specs.Solve.{solve}
use Rattle.steps.specs.InPlace.{InPlace}
use Rattle.loops.specs.Run.{Goes, Run, going, ended}
use Rattle.position.specs.Problem.{Problem}
use Rattle.solve_method.specs.Method.{method_of}
use Rattle.solve_method.specs.Places.{places_of}
use Rattle.position_delivery.specs.Outcome.{Lent, outcome_at, MeaningAt}
use Rattle.rules.specs.Rules.{Rules, Ruled}
use Rattle.solve_by_rules.specs.Ruled.{named_by}
use Rattle.position_delivery.specs.declared.answer.PositionPcgResult.{PositionPcgResult}
use Rattle.work_memory.specs.Work.{WorkMemory, After}

pub record Told : Type 0 where
  pub number : ℕ
  pub counts : List ℕ  -- count and flag
  pub maxima : List Float  -- linear and angular

unfoldable pub told_of : Run PositionPcgResult ℕ → List ℕ → List Float → Told
told_of (going r) counts maxima = record { number = 0; counts = r.iterations ∷ cond r.converged 1 0 ∷ []; maxima = r.linear_residual_m ∷ r.angular_residual_rad ∷ [] }
told_of (ended number) counts maxima = record { number = number; counts = counts; maxima = maxima }

-- "3. … a lent slice has not the length the counts call for", of the two slices that take the answer
unfoldable pub told_fits : List ℕ → List Float → Bool
told_fits counts maxima = eqb (length counts) 2 && eqb (length maxima) 2

-- The answer is the definition's, what is lent is as the definition leaves it, the answer means what demand 3 says, each refusal has its place, 0 is told for an accepted solve alone, and the work memory is cleared. Of n rows, whose number at this place grows; `fits` is whether refusal 3 passes.
pub record SolveTold (fits : Bool) (s : Rules) (p : Problem) (mode : Mode) (limit place n : ℕ) (before after : Lent) (numbers numbersAfter : List ℕ) (counts : List ℕ) (maxima : List Float) (told : Told) (work workAfter : WorkMemory) : Type 0 where
  pub answered : told ≡ told_of (outcome_at place n before (solve (method_of fits p mode) limit)).answer counts maxima
  pub delivered : after ≡ (outcome_at place n before (solve (method_of fits p mode) limit)).lent
  pub means : MeaningAt (method_of fits p mode) limit place n before (outcome_at place n before (solve (method_of fits p mode) limit)).answer after
  pub in_place : InPlace (method_of fits p mode) (places_of p) limit
  pub zero : (told.number ≡ 0) ↔ Goes (solve (method_of fits p mode) limit)
  pub named : numbersAfter ≡ named_by (outcome_at place n before (solve (method_of fits p mode) limit)).answer p.rule n numbers  -- the number of each row's rule
  pub ruled : Goes (solve (method_of fits p mode) limit) → Ruled s p.table  -- which is the one that it falls under
  pub memory : After fits work workAfter
