-- A solve is the same whatever is lent to take its answer: solution, impulses, centres and rules are written where it is accepted, and as they were where it is refused. Assumes nothing.
use Prim.Native.Nat.{ℕ}
use mathlib.Core.Path.{◌≡◌, refl, sym, ap, subst}
use mathlib.Core.Bool.{true}
use mathlib.Core.List.{List}
use lib.Ieee.{Float}
use Rattle.loops.specs.Run.{going, ended, Run}
use Rattle.rules.specs.Rules.{Rules}
use Rattle.preconditioner.specs.declared.mode.Mode.{Mode}
use Rattle.steps.specs.Solve.{solve}
use Rattle.position.specs.Problem.{Problem}
use Rattle.solve_method.specs.Method.{method_of}
use Rattle.position_delivery.specs.Outcome.{Lent, Outcome, Answer, proposal_of, committed_of, outcome_at, MeaningAt}
use Rattle.position_delivery.proofs.Answered.{entry_means}
use Rattle.solve_by_rules.specs.Ruled.{named_by}
use Rattle.own_memory.specs.Job.{JobSolved}
use Rattle.position_delivery.specs.declared.answer.PositionPcgResult.{PositionPcgResult}
use Rattle.group_step.specs.Group.{chosen}

-- with these in place of what took the answer
abbrev pub lent_with : Lent → List Float → List Float → List Float → Lent
lent_with l solution impulses centres = record { numbers = l.numbers; solution = solution; impulses = impulses; centres = centres }

abbrev pub left_with : Run PositionPcgResult ℕ → Lent → List Float → List Float → List Float → Lent
left_with answer after solution impulses centres = record { numbers = after.numbers; solution = chosen answer after.solution solution; impulses = chosen answer after.impulses impulses; centres = chosen answer after.centres centres }

module _ (place n : ℕ) (before : Lent) (solution impulses centres : List Float) where
  relent_own : (a : Answer) → let o = outcome_at place n before a in outcome_at place n (lent_with before solution impulses centres) a ≡ record { answer = o.answer; lent = left_with o.answer o.lent solution impulses centres }
  unfolding proposal_of committed_of
  relent_own (going ((flag, count, v), f)) = refl
  relent_own (ended number) = refl

  relent_outcome : (a : Answer) (answer : Run PositionPcgResult ℕ) (after : Lent) → outcome_at place n before a ≡ record { answer = answer; lent = after } → outcome_at place n (lent_with before solution impulses centres) a ≡ record { answer = answer; lent = left_with answer after solution impulses centres }
  relent_outcome a answer after e = subst (λ (x : Outcome). outcome_at place n (lent_with before solution impulses centres) a ≡ record { answer = x.answer; lent = left_with x.answer x.lent solution impulses centres }) e (relent_own a)

module _ {s : Rules} {p : Problem} {mode : Mode} {limit place n : ℕ} {before after : Lent} {named namedAfter : List ℕ} {answer : Run PositionPcgResult ℕ} (j : JobSolved true s p mode limit place n before after named namedAfter answer) where
  pub relend : (solution impulses centres : List Float) (names : List ℕ) → JobSolved true s p mode limit place n (lent_with before solution impulses centres) (left_with answer after solution impulses centres) names (chosen answer namedAfter names) answer
  relend solution impulses centres names =
      let e = relent_outcome place n before solution impulses centres (solve (method_of true p mode) limit) answer after j.answered in
      record { answered = e; means = entry_means (method_of true p mode) limit place n (lent_with before solution impulses centres) (left_with answer after solution impulses centres) answer e; in_place = j.in_place; named = go answer j.named; ruled = j.ruled }
    where
      go : (a : Run PositionPcgResult ℕ) → namedAfter ≡ named_by a p.rule n named → chosen a namedAfter names ≡ named_by a p.rule n names
      go (going r) e = e
      go (ended number) e = refl

  -- a refused solve has left the rows as they were
  pub kept_numbers_lem : chosen answer after.numbers before.numbers ≡ after.numbers
  kept_numbers_lem = go answer j.means
    where
      go : (a : Run PositionPcgResult ℕ) → MeaningAt (method_of true p mode) limit place n before a after → chosen a after.numbers before.numbers ≡ after.numbers
      go (going r) m = refl
      go (ended number) m = sym (ap (λ (l : Lent). l.numbers) m.kept)

  -- and what was to take its answer
  pub kept_impulses : chosen answer after.impulses before.impulses ≡ after.impulses
  kept_impulses = go answer j.means
    where
      go : (a : Run PositionPcgResult ℕ) → MeaningAt (method_of true p mode) limit place n before a after → chosen a after.impulses before.impulses ≡ after.impulses
      go (going r) m = refl
      go (ended number) m = sym (ap (λ (l : Lent). l.impulses) m.kept)

  pub kept_centres : chosen answer after.centres before.centres ≡ after.centres
  kept_centres = go answer j.means
    where
      go : (a : Run PositionPcgResult ℕ) → MeaningAt (method_of true p mode) limit place n before a after → chosen a after.centres before.centres ≡ after.centres
      go (going r) m = refl
      go (ended number) m = sym (ap (λ (l : Lent). l.centres) m.kept)

  pub kept_solution : chosen answer after.solution before.solution ≡ after.solution
  kept_solution = go answer j.means
    where
      go : (a : Run PositionPcgResult ℕ) → MeaningAt (method_of true p mode) limit place n before a after → chosen a after.solution before.solution ≡ after.solution
      go (going r) m = refl
      go (ended number) m = sym (ap (λ (l : Lent). l.solution) m.kept)

  pub kept_named : chosen answer namedAfter named ≡ namedAfter
  kept_named = go answer j.named
    where
      go : (a : Run PositionPcgResult ℕ) → namedAfter ≡ named_by a p.rule n named → chosen a namedAfter named ≡ namedAfter
      go (going r) e = refl
      go (ended number) e = sym e

-- equal lists are lent and left
pub job_same : {s : Rules} {p : Problem} {mode : Mode} {limit place n : ℕ} {before : Lent} {numbers numbers' solution solution' impulses centres : List Float} {named namedAfter namedAfter' : List ℕ} {answer : Run PositionPcgResult ℕ} → numbers ≡ numbers' → solution ≡ solution' → namedAfter ≡ namedAfter'
    → JobSolved true s p mode limit place n before (record { numbers = numbers; solution = solution; impulses = impulses; centres = centres }) named namedAfter answer
    → JobSolved true s p mode limit place n before (record { numbers = numbers'; solution = solution'; impulses = impulses; centres = centres }) named namedAfter' answer
job_same a b c j = rw (a, b, c) at j
