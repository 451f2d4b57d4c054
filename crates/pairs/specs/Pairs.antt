-- Document 01, "Factors and roots": "Pattern: pairs row > column that share a body, even if the value is zero. A pair value is one cross, lower row first, or the rounded sum of two."
-- pcg.rs: build_velocity_row_terms_by_body lists the rows of each body; build_incomplete_cholesky_preconditioner_into takes the bodies ascending.
use Rattle.std.specs.Prelude.{ℕ, zero, suc, ◌+◌, ◌*◌, ◌-◌, ◌/◌, Bool, true, ◌&&◌, ◌||◌, cond, eqb, ltb, Float}
use Rattle.std.proofs.Math.Option.{Option, none, some}
use Rattle.std.specs.Float.{binary64}
use Rattle.std.specs.Float.Ieee.{add}
use Rattle.std.specs.Float.Ieee.Scale.{finite}
use Rattle.loops.specs.Every.{every}
use Rattle.kapitsa_math.specs.declared.vector.Vec3.{Vec3}
use Rattle.kapitsa_joint.specs.Mass.{cross_of}
use Rattle.kapitsa_joint.specs.declared.row.RowJacobian.{RowJacobian}
use Rattle.kapitsa_joint.specs.declared.mass.SolverMass.{SolverMass}
use Rattle.mass_operator.specs.System.{System}
use Rattle.sparse.specs.Triangle.{Sparse}

-- ---- which pairs there are

-- two rows "that share a body"
unfoldable pub shares_of : RowJacobian → RowJacobian → Bool
shares_of p q = (eqb p.body_a q.body_a || eqb p.body_a q.body_b) || (eqb p.body_b q.body_a || eqb p.body_b q.body_b)

unfoldable pub pattern_of : System → ℕ → ℕ → Bool
pattern_of s i j = shares_of (s.jacobian i) (s.jacobian j)

-- the pairs of row i with a column below m
unfoldable pub row_pairs : (ℕ → ℕ → Bool) → ℕ → ℕ → ℕ
row_pairs share i zero = 0
row_pairs share i (suc j) = row_pairs share i j + cond (share i j) 1 0

-- the pairs of the rows below n: "two rows sharing one body or two, counted once"
unfoldable pub pair_count : (ℕ → ℕ → Bool) → ℕ → ℕ
pair_count share zero = 0
pair_count share (suc i) = pair_count share i + row_pairs share i i

-- "At most ... 16,384 pairs"
abbrev pub pair_limit : ℕ
pair_limit = 16384

-- the places that n rows call for: one for each two rows, and no more than the limit
unfoldable pub pair_room : ℕ → ℕ
pair_room n = cond (ltb pair_limit (n * (n - 1) / 2)) pair_limit (n * (n - 1) / 2)

-- ---- their values

-- with what a row acts on body b, linear and angular
unfoldable pub arm_of : RowJacobian → ℕ → Option (Vec3 × Vec3)
arm_of j b = cond (eqb j.body_a b) (some (j.linear_a, j.angular_a)) (cond (eqb j.body_b b) (some (j.linear_b, j.angular_b)) none)

-- the cross of an arm of the lower row with the arm that the higher one has at the same body, if it has one
unfoldable pub cross_at : SolverMass → Vec3 → Vec3 → Option (Vec3 × Vec3) → Option Float
cross_at m linear angular (some q) = some (cross_of m linear angular q.0 q.1)
cross_at m linear angular none = none

-- "or the rounded sum of two"
unfoldable pub sum_of : Option Float → Option Float → Option Float
sum_of (some x) (some y) = some (add binary64 x y)
sum_of (some x) none = some x
sum_of none y = y

-- the lower row p and the higher row q. The order of the two crosses is open: a rounded sum commutes (binary64, proofs/Commutes.antt)
unfoldable pub pair_of : (ℕ → SolverMass) → RowJacobian → RowJacobian → Option Float
pair_of mass p q =
    let a = cross_at (mass p.body_a) p.linear_a p.angular_a (arm_of q p.body_a) in
    let b = cross_at (mass p.body_b) p.linear_b p.angular_b (arm_of q p.body_b) in
    sum_of a b

-- the triangle of pairs: row i > column j
unfoldable pub pairs_of : System → Sparse
pairs_of s i j = cond (ltb i s.rows && ltb j i) (pair_of s.mass (s.jacobian j) (s.jacobian i)) none

-- refusal 12: "A pair value ... is not finite"
unfoldable pub finite_pair : Option Float → Bool
finite_pair none = true
finite_pair (some x) = finite x

unfoldable pub finite_pairs : Sparse → ℕ → Bool
finite_pairs L n = every (λ i. every (λ j. finite_pair (L i j)) i) n
