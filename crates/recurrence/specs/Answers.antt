-- What the answers of the recurrence tell, and what its vectors then hold.
use Rattle.std.specs.Prelude.{ℕ, ◌≡◌, List, Float, Result, Ok, Err}
use Rattle.loops.specs.Run.{Run, going, ended, on}
use Rattle.loops.specs.Cleared.{Free}
use Rattle.mass_operator.specs.System.{System}
use Rattle.mass_operator.specs.Operator.{response_at}
use Rattle.mass_operator.specs.Flat.{coefficients, product_of}
use Rattle.mass_operator.specs.Lent.{Paired}
use Rattle.recurrence.specs.Step.{Iterate, Carried}
use Rattle.refusals.specs.Number.{number_of}
use Rattle.refusals.specs.declared.Refusal.{Refusal}

-- the step, or the refusal of a solution that is not finite
abbrev pub advanced_out : Result Unit Refusal → List Float → List Float → Run Iterate ℕ
advanced_out (Ok _) solution residual = going (record { solution = solution; residual = residual })
advanced_out (Err refusal) solution residual = ended (number_of refusal)

-- the answer is s, and z stands beside the step
abbrev pub diagonal_out : Result Float Refusal → List Float → List Float → List Float → Run (Iterate × List Float × Float) ℕ
diagonal_out (Ok s) solution residual z = going (record { solution = solution; residual = residual }, z, s)
diagonal_out (Err refusal) solution residual z = ended (number_of refusal)

-- the answer is s
abbrev pub carried_out : Result Float Refusal → List Float → Run Carried ℕ
carried_out (Ok s) direction = going (record { direction = direction; s = s })
carried_out (Err refusal) direction = ended (number_of refusal)

-- ---- the vectors that these tell nothing of

-- the numbers as a solve leaves them, refused or not
unfoldable pub standing : Run (List Float) (List Float) → List Float
standing r = on r (λ z. z) (λ z. z)

-- what the operator works in, refused or not
pub record ProductLeft (s : System) (direction impulses product : List Float) : Type 0 where
  pub responded : Paired (response_at s (coefficients direction)) s.bodies impulses
  pub multiplied : product ≡ product_of s (coefficients direction)

-- `advance`: after a refusal solution and residual are free
pub record AdvanceLeft (solution₀ solution residual₀ residual : List Float) : Type 0 where
  pub solution_left : Free solution₀ solution
  pub residual_left : Free residual₀ residual

-- `advance_diagonal`: the product too
pub record DiagonalLeft (product₀ product solution₀ solution residual₀ residual : List Float) : Type 0 where
  pub product_left : Free product₀ product
  pub step_left : AdvanceLeft solution₀ solution residual₀ residual

-- `first` and `renew`: z as its solve leaves it, refused or not. After a refusal the direction is free.
pub record CarriedLeft (solve : Run (List Float) (List Float)) (z direction₀ direction : List Float) : Type 0 where
  pub preconditioned : z ≡ standing solve
  pub direction_left : Free direction₀ direction
