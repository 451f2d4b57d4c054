-- What stands in the lent memory while the steps are made, and what the answers of the loop tell.
use Rattle.std.specs.Prelude.{ℕ, ◌+◌, ◌*◌, ◌≤◌, ◌≡◌, Bool, true, false, List, length, Float, Result, Ok, Err, Option, Some, None}
use Rattle.loops.specs.Run.{Run, going, ended}
use Rattle.loops.specs.Cleared.{Free}
use Rattle.kapitsa_joint.specs.Table.{tolerances_in}
use Rattle.compact_table.specs.Compact.{Linked}
use Rattle.mass_operator.specs.System.{compact_system}
use Rattle.preconditioner.specs.Room.{Memory}
use Rattle.preconditioner.specs.Apply.{diagonal_solve_of}
use Rattle.preconditioner.specs.Held.{Ready, z_in}
use Rattle.preconditioner.specs.declared.apply.Preconditioner.{Preconditioner}
use Rattle.recurrence.specs.Step.{Iterate, Carried, updated_of, advance_of}
use Rattle.steps.specs.Method.{Recurrence}
use Rattle.steps.specs.Solve.{turn}
use Rattle.solve_method.specs.Method.{steps_by}
use Rattle.refusals.specs.Number.{number_of}
use Rattle.refusals.specs.declared.Refusal.{Refusal}

-- what the steps read: for n rows, the compact table is linked and a factor is ready
pub record Standing (p : Preconditioner) (n bodies : ℕ) (tolerances masses jacobians : List Float) (links : List ℕ) (m : Memory) : Type 0 where
  pub tolerances_long : length tolerances ≡ n
  pub masses_long : 10 * bodies ≤ length masses
  pub jacobians_long : 12 * n ≤ length jacobians
  pub links_long : 2 * n ≤ length links
  pub linked : Linked links n bodies
  pub ready : Ready p n m

-- the steps that stand there
abbrev pub steps_in : Preconditioner → ℕ → ℕ → List Float → List Float → List Float → List ℕ → Memory → Recurrence Iterate Carried
steps_in p n bodies tolerances masses jacobians links m = steps_by (z_in p n m) (advance_of (compact_system n bodies jacobians links masses)) n (tolerances_in tolerances)

-- a step once its product and alpha are there
abbrev pub along : List Float → Float → Iterate → Carried → Run Iterate ℕ
along product alpha v c = updated_of v c.direction product alpha

abbrev pub steps_along : Preconditioner → ℕ → List Float → Memory → List Float → Float → Recurrence Iterate Carried
steps_along p n tolerances m product alpha = steps_by (z_in p n m) (along product alpha) n (tolerances_in tolerances)

-- in mode 0, where z is the residual by the diagonal
abbrev pub diagonal_steps_along : ℕ → List Float → List Float → List Float → Float → Recurrence Iterate Carried
diagonal_steps_along n tolerances diagonal product alpha = steps_by (λ residual. going (diagonal_solve_of residual diagonal)) (along product alpha) n (tolerances_in tolerances)

-- ---- what the answers tell: the step stands in pending and residual, what is carried in direction and s; None where the step meets
abbrev pub turned_out : Result (Option Float) Refusal → ℕ → List Float → List Float → List Float → Run (Iterate × Carried) (Run (ℕ × Iterate) ℕ)
turned_out (Ok (Some s)) k pending residual direction = going (record { solution = pending; residual = residual }, record { direction = direction; s = s })
turned_out (Ok None) k pending residual direction = ended (going (k + 1, record { solution = pending; residual = residual }))
turned_out (Err refusal) k pending residual direction = ended (ended (number_of refusal))

-- whatever the turn's count
pub record TurnIs (steps : Recurrence Iterate Carried) (before : Iterate × Carried) (answer : Result (Option Float) Refusal) (pending residual direction : List Float) : Type 0 where
  pub at : (k : ℕ) → turn steps k before ≡ turned_out answer k pending residual direction

-- flag, count and step after the loop: the answer is the number of the step that met, or None at the limit
abbrev pub iterated_out : Result (Option ℕ) Refusal → ℕ → List Float → List Float → Run (Bool × ℕ × Iterate) ℕ
iterated_out (Ok (Some count)) limit pending residual = going (true, count, record { solution = pending; residual = residual })
iterated_out (Ok None) limit pending residual = going (false, limit, record { solution = pending; residual = residual })
iterated_out (Err refusal) limit pending residual = ended (number_of refusal)

-- ---- what the steps write: after a refusal nothing is told of it; otherwise the step counted stands in pending and residual
pub record StepsFree (body_impulses product pending residual direction bodyImpulses₁ product₁ pending₁ residual₁ direction₁ : List Float) : Type 0 where
  pub body_impulses_free : Free body_impulses bodyImpulses₁
  pub product_free : Free product product₁
  pub pending_free : Free pending pending₁
  pub residual_free : Free residual residual₁
  pub direction_free : Free direction direction₁
