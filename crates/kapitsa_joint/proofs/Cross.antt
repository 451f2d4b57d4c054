-- The Rust's SolverMass::cross tests four results on the way. Testing the last one refuses exactly what those refuse. Assumes nothing.
use mathlib.Core.Path.{◌≡◌, refl}
use mathlib.Core.Bool.{Bool, true, false}
use lib.Dec.{T}
use lib.Ieee.{Float, binary64, mul}
use lib.Ieee.Scale.{finite}
use Rattle.loops.specs.Run.{check}
use Rattle.rounding.proofs.Rounded.{add_finite, mul_finite}
use Rattle.kapitsa_math.specs.declared.vector.Vec3.{Vec3}
use Rattle.std.specs.Prelude.{Option, Some, None}
use Rattle.kapitsa_math.specs.Vector.{dot_of, is_finite_of}
use Rattle.kapitsa_math.specs.Matrix.{mul_vector_of}
use Rattle.kapitsa_math.specs.Checked.{checked_value_of}
use Rattle.kapitsa_math.proofs.Finite.{finite_vector, dot_finite}
use Rattle.kapitsa_joint.specs.Mass.{cross_of}
use Rattle.kapitsa_joint.specs.declared.mass.SolverMass.{SolverMass}

-- solver_mass.rs, line by line: the angular response, the two dot products and the sum, each tested (by proofs/Finite.antt of kapitsa_math a checked form tests its result alone)
unfoldable pub tested_cross : SolverMass → Vec3 → Vec3 → Vec3 → Vec3 → Option Float
tested_cross m la aa lb ab =
    check (is_finite_of (mul_vector_of m.inverse_inertia ab))
    (check (finite (dot_of la lb)) (check (finite (dot_of aa (mul_vector_of m.inverse_inertia ab))) (checked_value_of (cross_of m la aa lb ab)) None) None)
    None

-- a test that holds wherever the last one does changes nothing
idle : (b : Bool) (x : Float) (r : Option Float) → (T (finite x) → T b) → r ≡ checked_value_of x → check b r None ≡ checked_value_of x
unfolding check checked_value_of
idle true x r h e = e
idle false x r h e = go (finite x) h
  where
    go : (c : Bool) → (T c → T false) → None ≡ check c (Some x) None
    go true h = absurd (h tt)
    go false h = refl

pub cross_final : (m : SolverMass) (la aa lb ab : Vec3) → tested_cross m la aa lb ab ≡ checked_value_of (cross_of m la aa lb ab)
unfolding tested_cross
cross_final m la aa lb ab =
    let v = mul_vector_of m.inverse_inertia ab in
    idle (is_finite_of v) x (check (finite (dot_of la lb)) (check (finite (dot_of aa v)) (checked_value_of x) None) None) (λ t. finite_vector v (dot_finite aa v (parts t).1).1)
    (idle (finite (dot_of la lb)) x (check (finite (dot_of aa v)) (checked_value_of x) None) (λ t. (mul_finite binary64 m.inverse_mass (dot_of la lb) (parts t).0).1)
    (idle (finite (dot_of aa v)) x (checked_value_of x) (λ t. (parts t).1) refl))
  where
    x : Float
    x = cross_of m la aa lb ab

    parts : T (finite x) → T (finite (mul binary64 m.inverse_mass (dot_of la lb))) × T (finite (dot_of aa (mul_vector_of m.inverse_inertia ab)))
    parts t = unfold cross_of in add_finite binary64 (mul binary64 m.inverse_mass (dot_of la lb)) (dot_of aa (mul_vector_of m.inverse_inertia ab)) t
