-- What is judged in step 0, by what was judged before it, and what stands in the lent memory after it: the compact table is the system of the table.
use Rattle.std.specs.Prelude.{ℕ, ◌≡◌, List, Float, Result, Ok, Err}
use Rattle.loops.specs.Run.{Run, going, ended, next}
use Rattle.loops.specs.Tabulate.{tabulate}
use Rattle.loops.specs.Cleared.{zeros, Free}
use Rattle.compact_table.specs.Compact.{Linked}
use Rattle.recurrence.specs.Step.{Iterate}
use Rattle.position.specs.Problem.{Problem}
use Rattle.position.specs.Prepare.{rows_judged, diagonals, residuals}
use Rattle.refusals.specs.Number.{number_of}
use Rattle.refusals.specs.Told.{told}
use Rattle.refusals.specs.declared.Refusal.{Refusal}
use Rattle.position_iteration.specs.Stands.{Stands}

abbrev pub start_out : Result Unit Refusal → List Float → List Float → Run Iterate ℕ
start_out (Ok _) pending residual = going (record { solution = pending; residual = residual })
start_out (Err refusal) pending residual = ended (number_of refusal)

-- the rows judged, and the step: no factor yet
unfoldable pub step_zero_of : Problem → Run Iterate ℕ
step_zero_of p = next (rows_judged p) (λ _. going (record { solution = zeros p.table.rows; residual = residuals p.table p.start }))

pub record Started (p : Problem) (masses jacobians : List Float) (links : List ℕ) (tolerances diagonal : List Float) : Type 0 where
  pub stands : Stands p.table masses jacobians links
  pub tolerances_are : tolerances ≡ tabulate p.tolerance p.table.rows
  pub diagonal_is : diagonal ≡ diagonals p.table

-- by what was judged before it; after a refusal all of it is left free: the count clears it
pub record StartHeld (p : Problem) (opened : Result Unit Refusal) (masses : List Float) (answer : Result Unit Refusal) (jacobians : List Float) (links : List ℕ) (tolerances diagonal pending residual : List Float) : Type 0 where
  pub answered : next (told opened) (λ _. step_zero_of p) ≡ start_out answer pending residual
  pub started : answer ≡ Ok tt → Started p masses jacobians links tolerances diagonal

-- all that is written
pub record StartFree (jacobians : List Float) (links : List ℕ) (tolerances diagonal pending residual : List Float) (jacobians₁ : List Float) (links₁ : List ℕ) (tolerances₁ diagonal₁ pending₁ residual₁ : List Float) : Type 0 where
  pub jacobians_free : Free jacobians jacobians₁
  pub links_free : Free links links₁
  pub tolerances_free : Free tolerances tolerances₁
  pub diagonal_free : Free diagonal diagonal₁
  pub pending_free : Free pending pending₁
  pub residual_free : Free residual residual₁

-- where step 0 began, the compact table is linked
pub record Linking (answer : Result Unit Refusal) (links : List ℕ) (n bodies : ℕ) : Type 0 where
  pub linked : answer ≡ Ok tt → Linked links n bodies
