-- Document 01, "The closing check", in doubles: the measured gap, its radius and the verdict.
use Rattle.std.specs.Prelude.{ℕ, ◌+◌, Bool, pos, Float}
use Rattle.std.specs.Float.{binary64}
use Rattle.std.specs.Float.Ieee.{add, sub, mul, neg, le, of_int, of_bits}
use Rattle.loops.specs.Every.{every}
use Rattle.binary64.specs.Order.{absolute}
use Rattle.kapitsa_math.specs.Vector.{abs_of}
use Rattle.kapitsa_math.specs.Matrix.{abs_columns_of}
use Rattle.kapitsa_joint.specs.Maxima.{maxima_by}
use Rattle.kapitsa_joint.specs.Table.{Table}
use Rattle.kapitsa_joint.specs.Tolerance.{dimension_of}
use Rattle.kapitsa_joint.specs.declared.tolerance.RowDimension.{RowDimension}
use Rattle.kapitsa_joint.specs.declared.maxima.Maxima.{Maxima}
use Rattle.kapitsa_joint.specs.declared.row.RowJacobian.{RowJacobian}
use Rattle.kapitsa_joint.specs.declared.mass.SolverMass.{SolverMass}
use Rattle.mass_operator.specs.System.{System, system_of}
use Rattle.mass_operator.specs.Operator.{value_at}
use Rattle.check_range.specs.Closing.{Closing}

-- ---- "with every input replaced by its size"
unfoldable pub size_of_row : RowJacobian → RowJacobian
size_of_row j = record { linear_a = abs_of j.linear_a; angular_a = abs_of j.angular_a; linear_b = abs_of j.linear_b; angular_b = abs_of j.angular_b; body_a = j.body_a; body_b = j.body_b }

unfoldable pub size_of_mass : SolverMass → SolverMass
size_of_mass m = record { inverse_mass = absolute m.inverse_mass; inverse_inertia = abs_columns_of m.inverse_inertia }

abbrev pub sizes_of : System → System
sizes_of s = record { rows = s.rows; bodies = s.bodies; jacobian = λ i. size_of_row (s.jacobian i); mass = λ b. size_of_mass (s.mass b) }

-- ---- one row's numbers, from its error, its value and its value on sizes
-- "Measured r = (−error) − value."
unfoldable pub measured_of : Float → Float → Float
measured_of error value = sub binary64 (neg error) value

-- "W is |error| plus the value with every input replaced by its size."
unfoldable pub weight_of : Float → Float → Float
weight_of error size = add binary64 (absolute error) size

-- 2 ^ -51
abbrev pub tick : Float
tick = of_bits binary64 0x3cc0_0000_0000_0000

-- "(n+16) × 2^-51"
unfoldable pub radius_factor : ℕ → Float
radius_factor n = mul binary64 (of_int binary64 (pos (n + 16))) tick

-- "Radius E = W × ((n+16) × 2^-51)."
unfoldable pub radius_of : ℕ → Float → Float → Float
radius_of n error size = mul binary64 (weight_of error size) (radius_factor n)

-- a row's reach, "rounded |r| + E"
unfoldable pub reach_of : ℕ → Float → Float → Float → Float
reach_of n error value size = add binary64 (absolute (measured_of error value)) (radius_of n error size)

abbrev pub row_dimension : Table → ℕ → RowDimension
row_dimension t i = dimension_of (t.row i).words.dimension

-- ---- of row i of what a check is given
module _ (c : Closing) where
  unfoldable pub value_of : ℕ → Float
  value_of i = value_at (system_of c.table) c.listed i

  unfoldable pub size_of : ℕ → Float
  size_of i = value_at (sizes_of (system_of c.table)) (λ k. absolute (c.listed k)) i

  unfoldable pub radius : ℕ → Float
  radius i = radius_of c.table.rows (c.error i) (size_of i)

  unfoldable pub reach : ℕ → Float
  reach i = reach_of c.table.rows (c.error i) (value_of i) (size_of i)

  -- "rounded |r| + E ≤ tolerance"
  abbrev pub within : ℕ → Bool
  within i = le (reach i) (c.tolerance i)

  -- "Closed exactly when each rounded |r| + E ≤ tolerance."
  unfoldable pub closes : Bool
  closes = every within c.table.rows

  -- document 02, h: "for each dimension, the largest rounded |r| + E of the closing check", from +0.0 upward
  unfoldable pub largest_reaches : Maxima
  largest_reaches = maxima_by (row_dimension c.table) reach c.table.rows
