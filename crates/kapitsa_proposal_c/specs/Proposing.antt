-- What a proposal tells C: 0 with the proposal and the maxima, or the refusal's number, and then nothing else.
use Rattle.std.specs.Prelude.{ℕ, ◌≡◌, Bool, List, [], ◌∷◌, ◌↔◌, eqb, length, Float}
use Rattle.loops.specs.Run.{Goes, Run, going, ended}
use Rattle.rules.specs.Rules.{Rules}
use Rattle.preconditioner.specs.declared.mode.Mode.{Mode}
use Rattle.position.specs.Problem.{Problem}
use Rattle.steps.specs.Solve.{solve}
use Rattle.solve_method.specs.Method.{method_of}
use Rattle.work_memory.specs.Work.{WorkMemory}
use Rattle.proposals.specs.Proposal.{ProposalMemory, proposing}
use Rattle.position_delivery.specs.declared.answer.PositionPcgResult.{PositionPcgResult}
use Rattle.position_proposal.specs.Proposed.{Proposed}

pub record MaximaTold : Type 0 where
  pub number : ℕ
  pub maxima : List Float  -- linear and angular

unfoldable pub maxima_told : Run PositionPcgResult ℕ → List Float → MaximaTold
maxima_told (going r) maxima = record { number = 0; maxima = r.linear_residual_m ∷ r.angular_residual_rad ∷ [] }
maxima_told (ended number) maxima = record { number = number; maxima = maxima }

-- "3. … a lent slice has not the length the counts call for", of the slice that takes the maxima
unfoldable pub maxima_fit : List Float → Bool
maxima_fit maxima = eqb (length maxima) 2

-- The answer is the definition's, and all that a proposal promises holds of it; 0 is told for an accepted one alone. Of n rows with these numbers; `fits` is whether refusal 3 passes.
pub record ProposalTold (fits : Bool) (s : Rules) (p : Problem) (mode : Mode) (limit n : ℕ) (numbers : List Float) (before after : ProposalMemory) (named namedAfter : List ℕ) (maxima : List Float) (told : MaximaTold) (work workAfter : WorkMemory) : Type 0 where
  pub answered : told ≡ maxima_told (proposing n numbers before (solve (method_of fits p mode) limit)).answer maxima
  pub proposed : Proposed fits s p mode limit n numbers before after named namedAfter (proposing n numbers before (solve (method_of fits p mode) limit)).answer work workAfter
  pub zero : (told.number ≡ 0) ↔ Goes (solve (method_of fits p mode) limit)
