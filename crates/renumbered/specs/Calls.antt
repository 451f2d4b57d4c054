-- Document 02, n, of a job and the job with its bodies under new numbers, as both are lent: what the definitions give, and so what two calls tell by their contracts.
use Rattle.std.specs.Prelude.{ℕ, ◌≡◌, Bool, true, List, length, Float}
use Rattle.kapitsa_joint.specs.declared.maxima.Maxima.{Maxima}
use Rattle.preconditioner.specs.declared.mode.Mode.{Mode}
use Rattle.steps.specs.Alike.{delivering}
use Rattle.steps.specs.Solve.{solve}
use Rattle.solve_method.specs.Method.{method_of}
use Rattle.position_delivery.specs.Outcome.{Lent}
use Rattle.position_delivery.specs.declared.answer.PositionPcgResult.{PositionPcgResult}
use Rattle.check_answer.specs.Answer.{check_of, CheckAnswer}
use Rattle.kapitsa_joint.specs.Kind.{by_kind}
use Rattle.check_refusals.specs.Refusals.{given_fits, table_lengths}
use Rattle.own_memory.specs.Job.{job_fits}
use Rattle.renumbered.specs.Moved.{moved_impulses, moved_centres, moved}
use Rattle.renumbered.specs.Lists.{LentJob, solve_in, check_in, renumbered_job}
use Rattle.loops.specs.Run.{Run, going, ended}
use Rattle.renumbered.specs.Claims.{CheckedAlike}
use Rattle.check_answer.specs.declared.Verdict.TheVariants.{Closed}
use Rattle.loops.specs.Run.{going, ended}

-- ---- of the definitions; `fits` is whether 3 passes, and 3 judges both alike
pub record RenumbersJob (p q : ℕ → ℕ) (fits : Bool) (j : LentJob) : Type 0 where
  pub words_kept : length (renumbered_job p q j).words ≡ length j.words
  pub masses_kept : length (renumbered_job p q j).masses ≡ length j.masses
  pub centres_kept : length (renumbered_job p q j).centres ≡ length j.centres
  pub solves : (shift : Float) (mode : Mode) (limit : ℕ) → solve (method_of fits (solve_in (renumbered_job p q j) shift) mode) limit ≡ delivering (moved q) (solve (method_of fits (solve_in j shift) mode) limit)
  pub checks : (listed : List Float) → check_of fits (check_in (renumbered_job p q j) listed) ≡ check_of fits (check_in j listed)
  pub measures : fits ≡ true → (listed : List Float) → CheckedAlike (check_in j listed) (check_in (renumbered_job p q j) listed)

-- ---- 3, of a solve and of a check with memory of their own: the lengths of what is lent with the job
abbrev pub solve_fits : LentJob → ℕ → ℕ → ℕ → ℕ → ℕ → Bool
solve_fits j mode solution impulses newCentres named =
    job_fits j.kind j.rows j.bodies mode (length j.numbers) (length j.words) (length j.masses) solution impulses (length j.centres) newCentres (length j.rules.words) (length j.rules.tolerances) named (length j.residual)

abbrev pub check_fits : LentJob → List Float → List ℕ → Bool
check_fits j listed named = given_fits j.kind j.rows j.bodies (table_lengths j.numbers j.words j.masses (by_kind j.kind j.centres j.residual) listed j.rules.words j.rules.tolerances named)

-- ---- of two calls of a solve: ' is that of the renumbered job
-- what is lent to take the answer: the rows' numbers, with their multipliers or impulses, and the solution are the same
pub record LentAlike (q : ℕ → ℕ) (old new : Lent) : Type 0 where
  pub numbers : new.numbers ≡ old.numbers
  pub solution : new.solution ≡ old.solution
  pub impulses : new.impulses ≡ moved_impulses q old.impulses
  pub centres : new.centres ≡ moved_centres q old.centres

pub record SolvedAlike (q : ℕ → ℕ) (before after before' after' : Lent) (named namedAfter named' namedAfter' : List ℕ) (answer answer' : Run PositionPcgResult ℕ) : Type 0 where
  pub answered : answer' ≡ answer  -- refusal, or flag, count and residuals
  pub accepted : (r : PositionPcgResult) → answer ≡ going r → before'.numbers ≡ before.numbers → LentAlike q after after' × (namedAfter' ≡ namedAfter)
  pub refused : (n : ℕ) → answer ≡ ended n → (after ≡ before) × (after' ≡ before') × (namedAfter ≡ named) × (namedAfter' ≡ named')

-- ---- of two calls of a check, and of two that list the margins
pub record VerdictsAlike (named namedAfter named' namedAfter' : List ℕ) (answer answer' : CheckAnswer) : Type 0 where
  pub answered : answer' ≡ answer  -- refusal, or verdict and measured gap
  pub given : ((n : ℕ) → answer ≡ ended n → ⊥) → namedAfter' ≡ namedAfter
  pub refused : (n : ℕ) → answer ≡ ended n → (namedAfter ≡ named) × (namedAfter' ≡ named')

pub record MarginsAlike (answer : CheckAnswer) (rows rows' : List ℕ) (margins margins' : List Float) : Type 0 where
  pub listed : (g : Maxima) → answer ≡ going (Closed g) → (rows' ≡ rows) × (margins' ≡ margins)
