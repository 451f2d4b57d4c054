-- Document 01, "Why a job was turned back", 4 to 7, and 20 of document 02, each as a test that is true where the refusal does not apply.
use Rattle.std.specs.Prelude.{ℕ, Bool, not, ◌&&◌, leb, ltb, eqb, Float}
use Rattle.std.specs.Float.Ieee.{eq, le, neg}
use Rattle.std.specs.Float.Ieee.Scale.{finite}
use Rattle.loops.specs.Every.{every}
use Rattle.loops.specs.Cleared.{plus_zero}
use Rattle.binary64.specs.Order.{infinity}
use Rattle.kapitsa_math.specs.Vector.{is_finite_of}
use Rattle.kapitsa_math.specs.Matrix.{finite_columns_of}
use Rattle.kapitsa_joint.specs.Table.{Table}
use Rattle.kapitsa_joint.specs.Centre.{Centres}
use Rattle.kapitsa_joint.specs.declared.row.RowScalars.{RowScalars}
use Rattle.kapitsa_joint.specs.declared.row.RowWords.{RowWords}
use Rattle.kapitsa_joint.specs.declared.row.ConstraintRow.{ConstraintRow}
use Rattle.kapitsa_joint.specs.declared.mass.SolverMass.{SolverMass}

-- ---- 4. "A row's key, dimension, flag or spare has another value than those above": key (0 to 255), dimension (0, 1), flags (0 or 1), spare (0)
unfoldable pub words_fit_of : RowWords → Bool
words_fit_of w = (((leb w.key 255 && leb w.dimension 1) && leb w.force_driven 1) && leb w.position_enabled 1) && eqb w.spare 0

unfoldable pub passes4 : Table → Bool
passes4 t = every (λ i. words_fit_of (t.row i).words) t.rows

-- ---- 5. "a row fails the Rust's opening test (position off, compliance, damping, force_driven, a multiplier bound other than −infinity below and +infinity above)"
unfoldable pub opens_of : RowScalars → RowWords → Bool
opens_of s w =
    ((((eqb w.position_enabled 1 && eq s.compliance plus_zero) && eq s.damping plus_zero) && eqb w.force_driven 0) && eq s.min_multiplier (neg infinity)) && eq s.max_multiplier infinity

-- of velocities: document 02, a, "Its opening test reads the impulse bounds instead of the multiplier bounds and ignores position_enabled"
unfoldable pub velocity_opens_of : RowScalars → RowWords → Bool
velocity_opens_of s w = (((eq s.compliance plus_zero && eq s.damping plus_zero) && eqb w.force_driven 0) && eq s.min_impulse (neg infinity)) && eq s.max_impulse infinity

-- ---- 6. "A mass number is not finite."
unfoldable pub mass_finite_of : SolverMass → Bool
mass_finite_of m = finite m.inverse_mass && finite_columns_of m.inverse_inertia

unfoldable pub passes6 : Table → Bool
passes6 t = every (λ b. mass_finite_of (t.mass b)) t.bodies

-- document 02, d: "A centre that comes in not finite is refusal 6"
unfoldable pub centres_finite : Centres → Bool
centres_finite c = every (λ b. is_finite_of (c.at b)) c.bodies

-- ---- 20. Document 02, a: "20, a lent residual is not finite"
unfoldable pub passes20 : (ℕ → Float) → ℕ → Bool
passes20 residual rows = every (λ i. finite (residual i)) rows

-- ---- 7. "A row fails ConstraintRow::is_valid, or a body number of it is not below the body count." (row.rs; a NaN fails every comparison)
unfoldable pub bodies_below_of : ℕ → RowWords → Bool
bodies_below_of bodies w = (not (eqb w.body_a w.body_b) && ltb w.body_a bodies) && ltb w.body_b bodies

unfoldable pub jacobians_finite_of : ConstraintRow → Bool
jacobians_finite_of r = (((is_finite_of r.linear_a && is_finite_of r.angular_a) && is_finite_of r.position_angular_a) && is_finite_of r.linear_b) && is_finite_of r.angular_b

unfoldable pub scalars_finite_of : RowScalars → Bool
scalars_finite_of s =
    ((((((finite s.error && finite s.target_velocity) && finite s.force_bias) && finite s.compliance) && finite s.damping) && finite s.accumulated_multiplier) && finite s.accumulated_impulse)
    && finite s.cached_velocity_effective_mass

unfoldable pub scalars_in_range_of : RowScalars → Bool
scalars_in_range_of s =
    (((le plus_zero s.compliance && le plus_zero s.damping) && le s.min_multiplier s.max_multiplier) && le s.min_impulse s.max_impulse) && le plus_zero s.cached_velocity_effective_mass

unfoldable pub is_valid_of : ℕ → ConstraintRow → Bool
is_valid_of bodies r = ((bodies_below_of bodies r.words && jacobians_finite_of r) && scalars_finite_of r.scalars) && scalars_in_range_of r.scalars

unfoldable pub passes7 : Table → Bool
passes7 t = every (λ i. is_valid_of t.bodies (t.row i)) t.rows
