-- The rows and masses of a job, as functions of the row and the body: everything above is defined over a Table. `table_of` reads one out of the lent lists.
use Rattle.std.specs.Prelude.{ℕ, List, get_or, Float}
use Rattle.std.specs.Float.{nan}
use Rattle.kapitsa_joint.specs.Row.{row_of}
use Rattle.kapitsa_joint.specs.Mass.{mass_of}
use Rattle.kapitsa_joint.specs.Tolerance.{dimension_of, tolerance_of}
use Rattle.kapitsa_joint.specs.declared.row.ConstraintRow.{ConstraintRow}
use Rattle.kapitsa_joint.specs.declared.mass.SolverMass.{SolverMass}
use Rattle.kapitsa_joint.specs.declared.tolerance.JointTolerance.{JointTolerance}

pub record Table : Type 0 where
  pub rows : ℕ
  pub bodies : ℕ
  pub row : ℕ → ConstraintRow
  pub mass : ℕ → SolverMass

abbrev pub table_of : ℕ → ℕ → List Float → List ℕ → List Float → Table
table_of rows bodies numbers words masses = record { rows = rows; bodies = bodies; row = row_of numbers words; mass = mass_of masses }

-- ---- the tolerance of each row: that of its dimension, or the one in a lent list
abbrev pub by_dimension : JointTolerance → Table → ℕ → Float
by_dimension tolerance t i = tolerance_of tolerance (dimension_of (t.row i).words.dimension)

abbrev pub tolerances_in : List Float → ℕ → Float
tolerances_in l i = get_or l i nan
