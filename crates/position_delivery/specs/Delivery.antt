-- What the functions that deliver hand to one another.
use Rattle.std.specs.Prelude.{ℕ, zero, suc, ◌+◌, ◌*◌, ◌<◌, ◌≤◌, ◌≡◌, Bool, true, false, ◌&&◌, List, get_or, length, Float}
use Rattle.loops.specs.Run.{going, next, Run, ended}
use Rattle.kapitsa_joint.specs.Table.{Table}
use Rattle.kapitsa_joint.specs.Tolerance.{dimension_of}
use Rattle.kapitsa_joint.specs.Mass.{mass_of}
use Rattle.kapitsa_joint.specs.Impulse.{impulse_of, paired_of}
use Rattle.kapitsa_joint.specs.Centre.{Centres, centres_in, flat_centres}
use Rattle.joint_refusals.specs.Refusals.{centres_finite}
use Rattle.mass_operator.specs.Applied.{all_finite_of}
use Rattle.mass_operator.specs.Flat.{flat_impulses}
use Rattle.recurrence.specs.Step.{Iterate}
use Rattle.position.specs.Centres.{moved_by}
use Rattle.position.specs.Residual.{maxima_of}
use Rattle.position.specs.Multipliers.{gains_finite, gained}
use Rattle.solve_method.specs.Method.{finish_of}
use Rattle.position_delivery.specs.Outcome.{Answer}
use Rattle.position_delivery.specs.declared.answer.PositionPcgResult.{PositionPcgResult}

-- the centres after impulses that a list holds
abbrev pub moved_in : ℕ → List Float → List Float → List Float → Centres
moved_in placed masses impulses centres = moved_by (mass_of masses) (impulse_of impulses) (centres_in placed centres)

-- refusal 17, of impulses, multipliers and centres
abbrev pub passes17 : ℕ → ℕ → List Float → List Float → List Float → List Float → List Float → Bool
passes17 place placed numbers masses centres impulses pending = all_finite_of impulses && (gains_finite place numbers pending (length pending) && centres_finite (moved_in placed masses impulses centres))

-- and work memory holds the impulses, in its order
pub record Judged (r : Bool) (place placed bodies : ℕ) (numbers masses centres impulses pending body_impulses : List Float) : Type 0 where
  pub passed : r ≡ passes17 place placed numbers masses centres impulses pending
  pub summed : flat_impulses (paired_of body_impulses) bodies ≡ impulses

-- solution, impulses and centres, or nothing
pub record Shown (r : Bool) (place placed : ℕ) (numbers masses centres impulses pending solution₀ impulses₀ centres₀ solution₁ impulses₁ centres₁ : List Float) : Type 0 where
  pub passed : r ≡ passes17 place placed numbers masses centres impulses pending
  pub shown : r ≡ true → (solution₁ ≡ pending) × (impulses₁ ≡ impulses) × (centres₁ ≡ flat_centres (moved_in placed masses impulses centres))
  pub kept : r ≡ false → (solution₁ ≡ solution₀) × (impulses₁ ≡ impulses₀) × (centres₁ ≡ centres₀)

-- the answer by the rows' words and the residual
unfoldable pub accepted_of : Bool → ℕ → List ℕ → List Float → Run PositionPcgResult ℕ
accepted_of flag count words residual =
    let m = maxima_of (λ i. dimension_of (get_or words (8 * i + 1) 0)) residual (length residual) in
    going (record { converged = flag; iterations = count; linear_residual_m = m.linear; angular_residual_rad = m.angular })

-- the rows' numbers once an answer with this solution is committed: "Each accumulated_multiplier gains its solution number; with count 0 it keeps its bits"
unfoldable pub gained_after : ℕ → ℕ → List Float → List Float → List Float
gained_after place zero numbers solution = numbers
gained_after place (suc count) numbers solution = gained place numbers solution (length solution)

-- the room that this takes, where the answer is accepted
pub record CommitRoom (place : ℕ) (answer : Run PositionPcgResult ℕ) (solution numbers : ℕ) : Type 0 where
  pub within : place < 27
  pub room : (r : PositionPcgResult) → answer ≡ going r → 27 * solution ≤ numbers

unfoldable pub committed_by : ℕ → Run PositionPcgResult ℕ → List Float → List Float → List Float
committed_by place (going r) numbers solution = gained_after place r.iterations numbers solution
committed_by place (ended number) numbers solution = numbers

-- flag, count and the step counted, with what is delivered of it
unfoldable pub finished_of : Table → (ℕ → Float) → Centres → Bool × ℕ × Iterate → Answer
finished_of t accumulated c a = next (finish_of t accumulated c a.1 a.2) (λ f. going (a, f))
