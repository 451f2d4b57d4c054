-- What a table is to meet: the tolerance of each row, and what is judged of the tolerances themselves. Document 02, j and k.
use Rattle.std.specs.Prelude.{ℕ, Bool, ◌&&◌, List, Float}
use Rattle.std.specs.Float.Ieee.{le}
use Rattle.std.specs.Float.Ieee.Scale.{finite}
use Rattle.loops.specs.Cleared.{plus_zero}
use Rattle.kapitsa_joint.specs.declared.tolerance.JointTolerance.{JointTolerance}

pub record Tolerances : Type 0 where
  pub row : ℕ → Float
  pub rule : ℕ → ℕ  -- the number of the rule that row i is judged by
  pub tests : List (ℕ × Bool)  -- judged right after 4

-- ---- document 02, j: "26, a tolerance is negative, NaN or infinite", "−0.0 passes"
unfoldable pub tolerance_fits : Float → Bool
tolerance_fits x = le plus_zero x && finite x

unfoldable pub passes26 : JointTolerance → Bool
passes26 t = tolerance_fits t.linear_m && tolerance_fits t.angular_rad
