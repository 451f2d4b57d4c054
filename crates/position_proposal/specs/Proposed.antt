-- What a proposal promises. Document 02, l: "one committed leaves what the undivided solve in its place would have left".
use Rattle.std.specs.Prelude.{ℕ, ◌≡◌, Bool, ◌&&◌, List, eqb, length, Float}
use Rattle.rules.specs.Rules.{Rules, Ruled}
use Rattle.preconditioner.specs.declared.mode.Mode.{Mode}
use Rattle.position.specs.Problem.{Problem}
use Rattle.steps.specs.Solve.{solve}
use Rattle.steps.specs.InPlace.{InPlace}
use Rattle.solve_method.specs.Method.{method_of}
use Rattle.solve_method.specs.Places.{places_of}
use Rattle.position_delivery.specs.Delivery.{committed_by}
use Rattle.position_delivery.specs.Outcome.{Lent, committed_of, MeaningAt}
use Rattle.position_delivery.specs.declared.answer.PositionPcgResult.{PositionPcgResult}
use Rattle.work_memory.specs.Work.{WorkMemory, After}
use Rattle.solve_by_rules.specs.Ruled.{named_by}
use Rattle.loops.specs.Run.{Run, going}
use Rattle.proposals.specs.Proposal.{ProposalMemory, proposing}

-- 3, of the words and of the multipliers it started from
unfoldable pub proposal_lent : ℕ → ℕ → ℕ → Bool
proposal_lent rows words started = eqb words 4 && eqb started rows

-- with the rows, what the undivided solve is lent
abbrev pub lent_by : List Float → ProposalMemory → Lent
lent_by numbers m = record { numbers = numbers; solution = m.solution; impulses = m.impulses; centres = m.centres }

-- Of n rows with these numbers, whose number at 24 grows; `fits` is whether refusal 3 passes. The numbers themselves are not written: `committed_by` is what a commit makes of them.
pub record Proposed (fits : Bool) (s : Rules) (p : Problem) (mode : Mode) (limit n : ℕ) (numbers : List Float) (before after : ProposalMemory) (rules rulesAfter : List ℕ) (answer : Run PositionPcgResult ℕ) (work workAfter : WorkMemory) : Type 0 where
  pub answered : proposing n numbers before (solve (method_of fits p mode) limit) ≡ record { answer = answer; memory = after }  -- the answer and every lent number are the definition's, of refused calls too
  pub commits : committed_of 24 n numbers (solve (method_of fits p mode) limit) ≡ committed_by 24 answer numbers after.solution  -- the undivided solve leaves what a commit leaves
  pub means : MeaningAt (method_of fits p mode) limit 24 n (lent_by numbers before) answer (lent_by (committed_by 24 answer numbers after.solution) after)  -- demand 3
  pub in_place : InPlace (method_of fits p mode) (places_of p) limit  -- each refusal exactly in its place, 17 too
  pub long : length after.solution ≡ length before.solution
  pub named : rulesAfter ≡ named_by answer p.rule n rules  -- the number of each row's rule
  pub ruled : (r : PositionPcgResult) → answer ≡ going r → Ruled s p.table  -- which is the one that it falls under
  pub memory : After fits work workAfter
