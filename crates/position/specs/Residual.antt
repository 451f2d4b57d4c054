-- What is told of a step's residual. Document 01: "A residual meets tolerance where each |residual| ≤ its row's tolerance"; "two residual maxima, linear and angular, each from +0.0 upward".
-- pcg.rs, position_vector_converged and position_pcg_result.
use Rattle.std.specs.Prelude.{ℕ, Bool, List, get_or, Float}
use Rattle.std.specs.Float.{nan}
use Rattle.std.specs.Float.Ieee.{le}
use Rattle.loops.specs.Every.{every}
use Rattle.binary64.specs.Order.{absolute}
use Rattle.kapitsa_joint.specs.Maxima.{maxima_by}
use Rattle.kapitsa_joint.specs.declared.tolerance.RowDimension.{RowDimension}
use Rattle.kapitsa_joint.specs.declared.maxima.Maxima.{Maxima}

unfoldable pub meets_of : (ℕ → Float) → List Float → ℕ → Bool
meets_of tolerance residual n = every (λ i. le (absolute (get_or residual i nan)) (tolerance i)) n

-- over the first k rows
unfoldable pub maxima_of : (ℕ → RowDimension) → List Float → ℕ → Maxima
maxima_of dimension residual k = maxima_by dimension (λ i. absolute (get_or residual i nan)) k
