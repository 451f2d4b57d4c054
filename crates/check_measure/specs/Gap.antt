-- Document 01: "A row's exact gap is |error + value|, the value formed on the same listed numbers without any rounding, defined over whole numbers by scaling with a power of two."
-- Every double is a whole number of units of 2 ^ -1074 (`val`). A row's value has degree 4 in the listed numbers and the masses, so the scale is 2 ^ (3 * 1074): the error and the tolerance, of degree 1, are multiplied by it.
use Rattle.std.specs.Prelude.{ℕ, zero, suc, ◌^◌, cond, eqb, ℤ, pos, nat_abs, ◌+ℤ◌, ◌*ℤ◌, Float}
use Rattle.std.specs.Float.{binary64}
use Rattle.rounding.specs.Value.{val}
use Rattle.kapitsa_math.specs.declared.vector.Vec3.{Vec3}
use Rattle.kapitsa_math.specs.declared.matrix.Mat3.{Mat3}
use Rattle.kapitsa_joint.specs.declared.row.RowJacobian.{RowJacobian}
use Rattle.kapitsa_joint.specs.declared.mass.SolverMass.{SolverMass}
use Rattle.mass_operator.specs.System.{System, system_of}
use Rattle.check_range.specs.Closing.{Closing}

-- a double as a whole number of units, and a vector of such
abbrev pub exact : Float → ℤ
exact x = val binary64 x

pub record Exact3 : Type 0 where
  pub x : ℤ
  pub y : ℤ
  pub z : ℤ

abbrev pub exact_vec : Vec3 → Exact3
exact_vec v = record { x = exact v.x; y = exact v.y; z = exact v.z }

-- ---- products and sums, without rounding
unfoldable pub dot_z : Exact3 → Exact3 → ℤ
dot_z v w = ((v.x *ℤ w.x) +ℤ (v.y *ℤ w.y)) +ℤ (v.z *ℤ w.z)

unfoldable pub add_z : Exact3 → Exact3 → Exact3
add_z v w = record { x = v.x +ℤ w.x; y = v.y +ℤ w.y; z = v.z +ℤ w.z }

unfoldable pub scale_z : Exact3 → ℤ → Exact3
scale_z v c = record { x = v.x *ℤ c; y = v.y *ℤ c; z = v.z *ℤ c }

-- a matrix of doubles on an exact vector
unfoldable pub mul_z : Mat3 → Exact3 → Exact3
mul_z m v = add_z (add_z (scale_z (exact_vec m.x) v.x) (scale_z (exact_vec m.y) v.y)) (scale_z (exact_vec m.z) v.z)

-- ---- the operator, without rounding
pub record ExactImpulse : Type 0 where
  pub linear : Exact3
  pub angular : Exact3

abbrev pub nothing : ExactImpulse
nothing = record { linear = record { x = pos 0; y = pos 0; z = pos 0 }; angular = record { x = pos 0; y = pos 0; z = pos 0 } }

unfoldable pub add_impulse_z : ExactImpulse → Vec3 → Vec3 → Float → ExactImpulse
add_impulse_z g linear angular c = record { linear = add_z g.linear (scale_z (exact_vec linear) (exact c)); angular = add_z g.angular (scale_z (exact_vec angular) (exact c)) }

-- a row adds to its two bodies
unfoldable pub add_row_z : RowJacobian → Float → ℕ → ExactImpulse → ExactImpulse
add_row_z j c b g =
    let h = cond (eqb j.body_a b) (add_impulse_z g j.linear_a j.angular_a c) g in
    cond (eqb j.body_b b) (add_impulse_z h j.linear_b j.angular_b c) h

-- the impulse of body b by the rows 0 .. k - 1
unfoldable pub impulse_z : (ℕ → RowJacobian) → (ℕ → Float) → ℕ → ℕ → ExactImpulse
impulse_z j x b zero = nothing
impulse_z j x b (suc i) = add_row_z (j i) (x i) b (impulse_z j x b i)

unfoldable pub response_z : SolverMass → ExactImpulse → ExactImpulse
response_z m g = record { linear = scale_z g.linear (exact m.inverse_mass); angular = mul_z m.inverse_inertia g.angular }

unfoldable pub row_value_z : RowJacobian → ExactImpulse → ExactImpulse → ℤ
row_value_z j p q = ((dot_z (exact_vec j.linear_a) p.linear +ℤ dot_z (exact_vec j.angular_a) p.angular) +ℤ dot_z (exact_vec j.linear_b) q.linear) +ℤ dot_z (exact_vec j.angular_b) q.angular

unfoldable pub value_z : System → (ℕ → Float) → ℕ → ℤ
value_z s x i =
    let j = s.jacobian i in
    row_value_z j (response_z (s.mass j.body_a) (impulse_z s.jacobian x j.body_a s.rows)) (response_z (s.mass j.body_b) (impulse_z s.jacobian x j.body_b s.rows))

-- ---- the gap of row i, and a double at the same scale
abbrev pub scale : ℕ
scale = 2 ^ 3222

abbrev pub scaled : Float → ℤ
scaled x = exact x *ℤ pos scale

unfoldable pub gap : Closing → ℕ → ℕ
gap c i = nat_abs (scaled (c.error i) +ℤ value_z (system_of c.table) c.listed i)
