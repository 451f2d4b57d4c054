-- What the answers of step 0 tell.
use Rattle.std.specs.Prelude.{ℕ, ◌≡◌, List, Float, Result, Ok, Err}
use Rattle.loops.specs.Run.{Run, going, ended}
use Rattle.refusals.specs.Number.{number_of}
use Rattle.refusals.specs.Told.{told}
use Rattle.refusals.specs.declared.Refusal.{Refusal}
use Rattle.position.specs.Problem.{Problem}
use Rattle.position.specs.Prepare.{rows_judged, diagonals, residuals}
use Rattle.position.specs.declared.prepare.PreparedRow.{PreparedRow}

abbrev pub row_out : Result PreparedRow Refusal → Run (Float × Float) ℕ
row_out (Ok p) = going (p.diagonal, p.residual)
row_out (Err refusal) = ended (number_of refusal)

-- after a refusal diagonal and residual are left free: the solve clears them
pub record BegunHeld (p : Problem) (answer : Result Unit Refusal) (diagonal residual : List Float) : Type 0 where
  pub judgement : rows_judged p ≡ told answer
  pub diagonal_is : answer ≡ Ok tt → diagonal ≡ diagonals p.table
  pub residual_is : answer ≡ Ok tt → residual ≡ residuals p.table p.start
