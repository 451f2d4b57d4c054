-- The Rust tests a pair on the way: each cross inside SolverMass::cross and again where it is kept, and the sum of two. Testing the pair's value once, at its end, refuses exactly what those tests refuse. Assumes nothing.
use Prim.Native.Nat.{ℕ}
use mathlib.Core.Path.{◌≡◌, refl, ◌∙◌}
use mathlib.Core.Bool.{Bool, true, false, ◌&&◌}
use mathlib.Core.Option.{Option, none, some}
use lib.Dec.{T}
use lib.Ieee.{Float, binary64}
use lib.Ieee.Scale.{finite}
use borrow.Author.Tests.{lt-ltb}
use Rattle.loops.specs.Run.{check}
use Rattle.loops.specs.Every.{every}
use Rattle.loops.proofs.Every.{every_same}
use Rattle.rounding.proofs.Rounded.{add_finite}
use Rattle.kapitsa_math.specs.declared.vector.Vec3.{Vec3}
use Rattle.std.specs.Prelude.{Option as Maybe, Some, None}
use Rattle.kapitsa_math.specs.Checked.{checked_value_of}
use Rattle.kapitsa_joint.specs.Mass.{cross_of}
use Rattle.kapitsa_joint.proofs.Cross.{tested_cross, cross_final}
use Rattle.kapitsa_joint.specs.declared.row.RowJacobian.{RowJacobian}
use Rattle.kapitsa_joint.specs.declared.mass.SolverMass.{SolverMass}
use Rattle.mass_operator.specs.System.{System}
use Rattle.pairs.specs.Pairs.{arm_of, cross_at, sum_of, pair_of, pairs_of, finite_pair, finite_pairs}

-- what the Rust goes on with: a cross that passed its own tests and is finite
unfoldable pub passes : Maybe Float → Bool
passes (Some x) = finite x
passes None = false

-- the Rust's tests of the cross at one body, if the rows share it
unfoldable pub tested_at : SolverMass → Vec3 → Vec3 → Option (Vec3 × Vec3) → Bool
tested_at m l a (some q) = passes (tested_cross m l a q.0 q.1)
tested_at m l a none = true

-- all the Rust's tests of the pair of the lower row p and the higher row q: the cross at each body, and what is then kept, the cross or the sum of two
unfoldable pub tested_pair : (ℕ → SolverMass) → RowJacobian → RowJacobian → Bool
tested_pair mass p q =
    tested_at (mass p.body_a) p.linear_a p.angular_a (arm_of q p.body_a)
    && (tested_at (mass p.body_b) p.linear_b p.angular_b (arm_of q p.body_b) && finite_pair (pair_of mass p q))

-- one cross: its last test is the only one that matters (`cross_final`)
cross_tested : (m : SolverMass) (l a : Vec3) (o : Option (Vec3 × Vec3)) → tested_at m l a o ≡ finite_pair (cross_at m l a o)
unfolding tested_at cross_at finite_pair passes checked_value_of check
cross_tested m l a none = refl
cross_tested m l a (some q) = rw (cross_final m l a q.0 q.1) (told (finite (cross_of m l a q.0 q.1)) refl)
  where
    told : (b : Bool) → finite (cross_of m l a q.0 q.1) ≡ b → passes (check b (Some (cross_of m l a q.0 q.1)) None) ≡ b
    told true e = e
    told false e = refl

-- a sum is finite only where both crosses are
sum_parts : (x y : Option Float) → T (finite_pair (sum_of x y)) → T (finite_pair x) × T (finite_pair y)
unfolding finite_pair sum_of
sum_parts (some x) (some y) t = add_finite binary64 x y t
sum_parts (some x) none t = (t, tt)
sum_parts none y t = (tt, t)

-- tests that hold wherever the last one does change nothing
idle : (a b c : Bool) → (T c → T a × T b) → (a && (b && c)) ≡ c
idle true true c h = refl
idle true false true h = absurd (h tt).1
idle true false false h = refl
idle false b true h = absurd (h tt).0
idle false b false h = refl

pub pair_final : (mass : ℕ → SolverMass) (p q : RowJacobian) → tested_pair mass p q ≡ finite_pair (pair_of mass p q)
unfolding tested_pair pair_of
pair_final mass p q =
    rw (cross_tested (mass p.body_a) p.linear_a p.angular_a (arm_of q p.body_a), cross_tested (mass p.body_b) p.linear_b p.angular_b (arm_of q p.body_b))
    (idle (finite_pair x) (finite_pair y) (finite_pair (sum_of x y)) (sum_parts x y))
  where
    x : Option Float
    x = cross_at (mass p.body_a) p.linear_a p.angular_a (arm_of q p.body_a)

    y : Option Float
    y = cross_at (mass p.body_b) p.linear_b p.angular_b (arm_of q p.body_b)

-- refusal 12 of the whole table: where the Rust's tests of every pair pass, and nowhere else
pub pairs_final : (s : System) → every (λ i. every (λ j. tested_pair s.mass (s.jacobian j) (s.jacobian i)) i) s.rows ≡ finite_pairs (pairs_of s) s.rows
unfolding finite_pairs pairs_of
pairs_final s =
    every_same _ _ s.rows
    (λ i li. every_same _ _ i (λ j lj. pair_final s.mass (s.jacobian j) (s.jacobian i) ∙ rw (lt-ltb i s.rows li, lt-ltb j i lj)))
