-- Document 01, refusal 18: "In the closing check, an error, a linear or angular number (not position_angular_a), a mass number or a listed multiplier is neither zero nor from 2^-150 to 2^150 in size." Each test is true where the refusal does not apply.
use Rattle.std.specs.Prelude.{ℕ, Bool, ◌&&◌, ◌||◌, Float}
use Rattle.std.specs.Float.{binary64}
use Rattle.std.specs.Float.Ieee.{eq, le, of_bits}
use Rattle.loops.specs.Every.{every}
use Rattle.binary64.specs.Order.{absolute}
use Rattle.kapitsa_math.specs.declared.vector.Vec3.{Vec3}
use Rattle.kapitsa_math.specs.declared.matrix.Mat3.{Mat3}
use Rattle.kapitsa_joint.specs.Row.{jacobian_of}
use Rattle.kapitsa_joint.specs.Table.{Table}
use Rattle.kapitsa_joint.specs.declared.row.RowJacobian.{RowJacobian}
use Rattle.kapitsa_joint.specs.declared.mass.SolverMass.{SolverMass}
use Rattle.check_range.specs.Closing.{Closing}

abbrev pub least : Float
least = of_bits binary64 0x3690_0000_0000_0000

abbrev pub most : Float
most = of_bits binary64 0x4950_0000_0000_0000

unfoldable pub in_range : Float → Bool
in_range x = eq x (of_bits binary64 0) || (le least (absolute x) && le (absolute x) most)

unfoldable pub vec_in_range : Vec3 → Bool
vec_in_range v = (in_range v.x && in_range v.y) && in_range v.z

unfoldable pub mat_in_range : Mat3 → Bool
mat_in_range m = (vec_in_range m.x && vec_in_range m.y) && vec_in_range m.z

unfoldable pub jacobian_in_range : RowJacobian → Bool
jacobian_in_range j = ((vec_in_range j.linear_a && vec_in_range j.angular_a) && vec_in_range j.linear_b) && vec_in_range j.angular_b

unfoldable pub mass_in_range : SolverMass → Bool
mass_in_range m = in_range m.inverse_mass && mat_in_range m.inverse_inertia

unfoldable pub row_in_range : RowJacobian → Float → Float → Bool
row_in_range j error multiplier = (jacobian_in_range j && in_range error) && in_range multiplier

-- every row with its error and its listed multiplier, and every mass, also of bodies in no row
unfoldable pub table_in_range : Table → (ℕ → Float) → (ℕ → Float) → Bool
table_in_range t error listed = every (λ i. row_in_range (jacobian_of (t.row i)) (error i) (listed i)) t.rows && every (λ b. mass_in_range (t.mass b)) t.bodies

abbrev pub passes18 : Closing → Bool
passes18 c = table_in_range c.table c.error c.listed
