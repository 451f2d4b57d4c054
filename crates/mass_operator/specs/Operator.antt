-- Document 01, the closing check: "form the mass operator on that list, rows ascending from +0.0, linear then angular, a before b; dot is ((xx)+(yy))+(zz), a matrix row likewise; a row value is ((la+aa)+lb)+ab."
-- In pcg.rs: add_generalized_impulse, global_velocity_impulse, global_velocity_matrix_vector. The coefficient of row i is x i.
use Rattle.std.specs.Prelude.{ℕ, zero, suc, cond, eqb, Float}
use Rattle.std.specs.Float.{binary64}
use Rattle.std.specs.Float.Ieee.{add}
use Rattle.loops.specs.Cleared.{plus_zero}
use Rattle.kapitsa_math.specs.Vector.{dot_of, add_of, scale_of}
use Rattle.kapitsa_math.specs.Matrix.{mul_vector_of}
use Rattle.kapitsa_math.specs.declared.vector.Vec3.{Vec3}
use Rattle.kapitsa_joint.specs.declared.row.RowJacobian.{RowJacobian}
use Rattle.kapitsa_joint.specs.declared.mass.SolverMass.{SolverMass}
use Rattle.kapitsa_joint.specs.declared.impulse.GeneralizedImpulse.{GeneralizedImpulse}
use Rattle.mass_operator.specs.System.{System}

-- ---- the impulse of each body: add_generalized_impulse for every row on it
unfoldable pub add_impulse_of : GeneralizedImpulse → Vec3 → Vec3 → Float → GeneralizedImpulse
add_impulse_of g linear angular c = record { linear = add_of g.linear (scale_of linear c); angular = add_of g.angular (scale_of angular c) }

-- what a row with the coefficient c makes of the impulse of body b: "a before b"
unfoldable pub add_row_of : RowJacobian → Float → ℕ → GeneralizedImpulse → GeneralizedImpulse
add_row_of j c b g =
    let h = cond (eqb j.body_a b) (add_impulse_of g j.linear_a j.angular_a c) g in
    cond (eqb j.body_b b) (add_impulse_of h j.linear_b j.angular_b c) h

abbrev pub no_impulse : GeneralizedImpulse
no_impulse = record { linear = record { x = plus_zero; y = plus_zero; z = plus_zero }; angular = record { x = plus_zero; y = plus_zero; z = plus_zero } }

-- of body b after the rows 0 .. k - 1: "rows ascending from +0.0"
unfoldable pub impulse_at : (ℕ → RowJacobian) → (ℕ → Float) → ℕ → ℕ → GeneralizedImpulse
impulse_at j x b zero = no_impulse
impulse_at j x b (suc i) = add_row_of (j i) (x i) b (impulse_at j x b i)

-- ---- the response of each body
unfoldable pub response_of : SolverMass → GeneralizedImpulse → GeneralizedImpulse
response_of m g = record { linear = scale_of g.linear m.inverse_mass; angular = mul_vector_of m.inverse_inertia g.angular }

unfoldable pub response_at : System → (ℕ → Float) → ℕ → GeneralizedImpulse
response_at s x b = response_of (s.mass b) (impulse_at s.jacobian x b s.rows)

-- ---- the value of each row: "((la+aa)+lb)+ab"
unfoldable pub row_value_of : RowJacobian → GeneralizedImpulse → GeneralizedImpulse → Float
row_value_of j p q = add binary64 (add binary64 (add binary64 (dot_of j.linear_a p.linear) (dot_of j.angular_a p.angular)) (dot_of j.linear_b q.linear)) (dot_of j.angular_b q.angular)

unfoldable pub value_at : System → (ℕ → Float) → ℕ → Float
value_at s x i = row_value_of (s.jacobian i) (response_at s x (s.jacobian i).body_a) (response_at s x (s.jacobian i).body_b)
