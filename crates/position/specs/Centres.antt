-- Document 02, d: "The new centre is the centre plus inverse_mass times the linear impulse, each rounded, as next_center in `apply_constraint_position_impulse_cached`. A body whose six impulses are all zero keeps its centre's bits."
use Rattle.std.specs.Prelude.{ℕ, Bool, ◌&&◌, cond}
use Rattle.std.specs.Float.Ieee.{eq}
use Rattle.loops.specs.Cleared.{plus_zero}
use Rattle.kapitsa_math.specs.declared.vector.Vec3.{Vec3}
use Rattle.kapitsa_math.specs.Vector.{add_of, scale_of}
use Rattle.kapitsa_joint.specs.Centre.{Centres}
use Rattle.kapitsa_joint.specs.declared.impulse.GeneralizedImpulse.{GeneralizedImpulse}
use Rattle.kapitsa_joint.specs.declared.mass.SolverMass.{SolverMass}

-- zeros, of either sign
unfoldable pub zero_of : Vec3 → Bool
zero_of v = (eq v.x plus_zero && eq v.y plus_zero) && eq v.z plus_zero

unfoldable pub still_of : GeneralizedImpulse → Bool
still_of g = zero_of g.linear && zero_of g.angular

-- solver_mass.rs: linear_impulse times inverse_mass, then the centre plus it
unfoldable pub next_centre : SolverMass → GeneralizedImpulse → Vec3 → Vec3
next_centre m g centre = add_of centre (scale_of g.linear m.inverse_mass)

unfoldable pub moved_at : (ℕ → SolverMass) → (ℕ → GeneralizedImpulse) → (ℕ → Vec3) → ℕ → Vec3
moved_at mass impulse centre b = cond (still_of (impulse b)) (centre b) (next_centre (mass b) (impulse b) (centre b))

-- every centre there is
abbrev pub moved_by : (ℕ → SolverMass) → (ℕ → GeneralizedImpulse) → Centres → Centres
moved_by mass impulse c = record { bodies = c.bodies; at = moved_at mass impulse c.at }
