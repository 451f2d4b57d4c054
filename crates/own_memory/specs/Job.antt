-- A solve that brings its own work memory: what it refuses by 3, and what it promises.
use Rattle.std.specs.Prelude.{ℕ, ◌≡◌, Bool, ◌&&◌, List}
use Rattle.kapitsa_joint.specs.declared.kind.Kind.{Kind}
use Rattle.rules.specs.Rules.{Rules, Ruled}
use Rattle.preconditioner.specs.Mode.{room_mode}
use Rattle.preconditioner.specs.Room.{pattern_room, order_room, values_room}
use Rattle.preconditioner.specs.declared.mode.Mode.{Mode}
use Rattle.steps.specs.Solve.{solve}
use Rattle.steps.specs.InPlace.{InPlace}
use Rattle.position.specs.Problem.{Problem}
use Rattle.solve_method.specs.Method.{method_of}
use Rattle.solve_method.specs.Places.{places_of}
use Rattle.position_delivery.specs.Outcome.{Lent, outcome_at, MeaningAt}
use Rattle.position_delivery.specs.declared.answer.PositionPcgResult.{PositionPcgResult}
use Rattle.solve_by_rules.specs.Ruled.{rules_lent, beside_lent, named_by}
use Rattle.joint_refusals.specs.Counts.{counts_fit}
use Rattle.loops.specs.Run.{Run, going}
use Rattle.work_memory.specs.Lengths.{table_fits}

-- Document 01, refusal 3, of what a caller lends: the counts, the mode, and the lengths of the table, of the rules, of what takes the answer and of what a kind has beside them: positions centres, velocities (document 02, a) a residual. True where the refusal does not apply.
unfoldable pub job_fits : Kind → ℕ → ℕ → ℕ → ℕ → ℕ → ℕ → ℕ → ℕ → ℕ → ℕ → ℕ → ℕ → ℕ → ℕ → Bool
job_fits kind n b mode numbers words masses solution impulses centres newCentres rule_words rule_tolerances rule_numbers given = (rules_lent n rule_words rule_tolerances rule_numbers && beside_lent kind n b centres newCentres given) && (counts_fit n b mode && table_fits n b numbers words masses solution impulses)

-- of n rows, whose number at this place grows; `fits` is whether refusal 3 passes
pub record JobSolved (fits : Bool) (s : Rules) (p : Problem) (mode : Mode) (limit place n : ℕ) (before after : Lent) (numbers numbersAfter : List ℕ) (answer : Run PositionPcgResult ℕ) : Type 0 where
  pub answered : outcome_at place n before (solve (method_of fits p mode) limit) ≡ record { answer = answer; lent = after }  -- the answer and every lent number are the definition's, of refused calls too
  pub means : MeaningAt (method_of fits p mode) limit place n before answer after  -- demand 3
  pub in_place : InPlace (method_of fits p mode) (places_of p) limit  -- each refusal exactly in its place
  pub named : numbersAfter ≡ named_by answer p.rule n numbers  -- the number of each row's rule
  pub ruled : (r : PositionPcgResult) → answer ≡ going r → Ruled s p.table  -- which is the one that it falls under

-- the factor's memory is as long as the mode calls for
pub record FactorRoom (mode n pattern order values : ℕ) : Type 0 where
  pub pattern_long : pattern ≡ pattern_room (room_mode mode) n
  pub order_long : order ≡ order_room (room_mode mode) n
  pub values_long : values ≡ values_room (room_mode mode) n
