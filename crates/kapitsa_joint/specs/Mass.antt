-- Document 01: "a mass ten: inverse_mass, then inverse_inertia by columns. The centre is not read here."
use Rattle.std.specs.Prelude.{ℕ, ◌+◌, ◌*◌, List, get_or, Float}
use Rattle.std.specs.Float.{nan, binary64}
use Rattle.std.specs.Float.Ieee.{add, mul}
use Rattle.kapitsa_math.specs.declared.vector.Vec3.{Vec3}
use Rattle.kapitsa_math.specs.Vector.{dot_of}
use Rattle.kapitsa_math.specs.Matrix.{mul_vector_of}
use Rattle.kapitsa_math.specs.Lent.{vec_of}
use Rattle.kapitsa_joint.specs.declared.mass.SolverMass.{SolverMass}

unfoldable pub mass_of : List Float → ℕ → SolverMass
mass_of l b = record { inverse_mass = get_or l (10 * b) nan; inverse_inertia = record { x = vec_of l (10 * b + 1); y = vec_of l (10 * b + 4); z = vec_of l (10 * b + 7) } }

-- solver_mass.rs, SolverMass::cross: for generalized Jacobians J = (linear, angular), Ja M^-1 Jb^T
unfoldable pub cross_of : SolverMass → Vec3 → Vec3 → Vec3 → Vec3 → Float
cross_of m la aa lb ab = add binary64 (mul binary64 m.inverse_mass (dot_of la lb)) (dot_of aa (mul_vector_of m.inverse_inertia ab))

-- SolverMass::diagonal
unfoldable pub diagonal_of : SolverMass → Vec3 → Vec3 → Float
diagonal_of m l a = cross_of m l a l a
