-- A row's test and its tolerance. Assumes nothing.
use Prim.Native.Nat.{ℕ}
use mathlib.Core.Path.{◌≡◌, ◌∙◌}
use lib.Ieee.{Float, le}
use Rattle.binary64.specs.Order.{absolute}
use Rattle.kapitsa_joint.specs.Tolerance.{dimension_of, tolerance_of}
use Rattle.kapitsa_joint.specs.declared.tolerance.JointTolerance.{JointTolerance}
use Rattle.kapitsa_joint.specs.declared.tolerance.RowDimension.{RowDimension}

-- ---- `row_converged`
pub row_meets : (x s y : Float) → s ≡ absolute x → le s y ≡ le (absolute x) y
row_meets x s y es = rw es

-- ---- `row_tolerance`
pub tolerance_is : (tolerance : JointTolerance) (word : ℕ) (y : Float) (d : RowDimension) → d ≡ dimension_of word → y ≡ tolerance_of tolerance d → y ≡ tolerance_of tolerance (dimension_of word)
tolerance_is tolerance word y d ed ey = ey ∙ rw ed
