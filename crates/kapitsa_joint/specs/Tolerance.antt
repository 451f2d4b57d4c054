-- Document 01: "dimension (0 linear, 1 angular)", and a row's tolerance by it (pcg.rs, position_row_tolerance).
use Rattle.std.specs.Prelude.{ℕ, zero, suc, Float}
use Rattle.kapitsa_joint.specs.declared.tolerance.RowDimension.{RowDimension}
use Rattle.kapitsa_joint.specs.declared.tolerance.RowDimension.TheVariants.{Linear, Angular}
use Rattle.kapitsa_joint.specs.declared.tolerance.JointTolerance.{JointTolerance}

-- another word than 0 and 1 is refusal 4's
unfoldable pub dimension_of : ℕ → RowDimension
dimension_of zero = Linear
dimension_of (suc n) = Angular

unfoldable pub tolerance_of : JointTolerance → RowDimension → Float
tolerance_of t Linear = t.linear_m
tolerance_of t Angular = t.angular_rad
