-- The solves that lent lists give: with each row's tolerance by its rule (document 02, k), a shift for the factor of mode 1 (document 02, f), and the centres of the bodies (document 02, d) or a residual (document 02, a).
use Rattle.std.specs.Prelude.{ℕ, ◌*◌, Bool, true, List, [], ◌∷◌, Float}
use Rattle.kapitsa_math.specs.declared.vector.Vec3.{Vec3}
use Rattle.kapitsa_math.specs.Lent.{vec_of}
use Rattle.kapitsa_joint.specs.Table.{Table, table_of}
use Rattle.kapitsa_joint.specs.Centre.{Centres, centres_in, no_centres}
use Rattle.joint_refusals.specs.Refusals.{centres_finite}
use Rattle.joint_refusals.specs.Tolerances.{Tolerances}
use Rattle.rules.specs.Rules.{Rules, ruled_by}
use Rattle.preconditioner.specs.Shift.{passes25}
use Rattle.mass_operator.specs.Flat.{coefficients}
use Rattle.position.specs.Problem.{Problem, position_problem, velocity_problem, with_tests}
use Rattle.kapitsa_joint.specs.Kind.{by_kind}
use Rattle.position.specs.Kinds.{kind_problem}
use Rattle.kapitsa_joint.specs.declared.kind.Kind.{Kind}

-- "25 ... judged right after 3, in a job without rows too", and in every mode
abbrev pub shift_tests : Float → List (ℕ × Bool)
shift_tests shift = (25, passes25 shift) ∷ []

-- with centres, of which it is told whether they are finite
abbrev pub placed_problem : Table → Tolerances → Float → Bool → Centres → Problem
placed_problem t limits shift placed centres = with_tests (shift_tests shift) limits placed centres (position_problem t limits.row)

-- with the centre of each body
abbrev pub shifted_problem : Table → Tolerances → Float → (ℕ → Vec3) → Problem
shifted_problem t limits shift centre = let c : Centres = record { bodies = t.bodies; at = centre } in placed_problem t limits shift (centres_finite c) c

abbrev pub position_of : ℕ → ℕ → List Float → List ℕ → List Float → List Float → Rules → Float → Problem
position_of rows bodies numbers words masses centres rules shift = let t = table_of rows bodies numbers words masses in shifted_problem t (ruled_by rules t) shift (λ b. vec_of centres (3 * b))

-- ---- velocities (document 02, a), by the residual that is lent: "Velocity solves give no centres"
abbrev pub moving_problem : Table → Tolerances → Float → (ℕ → Float) → Problem
moving_problem t limits shift residual = with_tests (shift_tests shift) limits true no_centres (velocity_problem t limits.row residual)

abbrev pub velocity_of : ℕ → ℕ → List Float → List ℕ → List Float → List Float → Rules → Float → Problem
velocity_of rows bodies numbers words masses residual rules shift = let t = table_of rows bodies numbers words masses in moving_problem t (ruled_by rules t) shift (coefficients residual)

-- ---- of either kind: the centres are lent to positions, the residual to velocities

-- what step 0 and the steps after it look at
abbrev pub kind_of : Kind → ℕ → ℕ → List Float → List ℕ → List Float → List Float → Rules → Problem
kind_of kind rows bodies numbers words masses residual rules = let t = table_of rows bodies numbers words masses in kind_problem kind t (ruled_by rules t).row (coefficients residual)

-- `position_of` or `velocity_of`
abbrev pub solve_for : Kind → ℕ → ℕ → List Float → List ℕ → List Float → List Float → List Float → Rules → Float → Problem
solve_for kind rows bodies numbers words masses centres residual rules shift =
    let c = centres_in bodies centres in
    with_tests (shift_tests shift) (ruled_by rules (table_of rows bodies numbers words masses)) (by_kind kind (centres_finite c) true) (by_kind kind c no_centres) (kind_of kind rows bodies numbers words masses residual rules)

-- up to the step counted: of the centres only whether they are finite
abbrev pub steps_for : Kind → ℕ → ℕ → List Float → List ℕ → List Float → List Float → Rules → Float → Bool → Problem
steps_for kind rows bodies numbers words masses residual rules shift placed =
    with_tests (shift_tests shift) (ruled_by rules (table_of rows bodies numbers words masses)) placed no_centres (kind_of kind rows bodies numbers words masses residual rules)
