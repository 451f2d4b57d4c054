-- The ways through the functions that work out the value of one pair. Assumes nothing.
use Prim.Native.Nat.{ℕ, ◌+◌, ◌*◌, ◌<◌, ◌≤◌}
use mathlib.Core.Path.{◌≡◌, refl, ap, ◌∙◌}
use mathlib.Core.List.{List}
use mathlib.Core.Option.{Option, none, some}
use native.Mathlib.Decide.{ℕ_discrete}
use native.Mathlib.Omega.{arith}
use lib.ListN.{length}
use lib.Ieee.{Float, binary64}
use borrow.Author.Tests.{eq-eqb, ne_eqb}
use Rattle.std.specs.Prelude.{Option as Maybe}
use Rattle.binary64.proofs.Commutes.{add_swap}
use Rattle.kapitsa_math.specs.declared.vector.Vec3.{Vec3}
use Rattle.kapitsa_joint.specs.Mass.{mass_of, cross_of}
use Rattle.kapitsa_joint.specs.declared.row.RowJacobian.{RowJacobian}
use Rattle.kapitsa_joint.specs.declared.mass.SolverMass.{SolverMass}
use Rattle.compact_table.specs.Compact.{compact_of, Linked}
use Rattle.pairs.specs.Pairs.{arm_of, cross_at, sum_of, pair_of}
use Rattle.pairs.specs.Gather.{crossed_out, number_of, arm_at, arms_of, met_of, met_at, value_with, value_in}
use Rattle.pairs.specs.declared.arms.Arms.{Arms}

-- `met_at`
module _ (h : Arms) (body : ℕ) (l a : Vec3) (v : Float) where
  pub met_a : h.a.body ≡ body → v ≡ met_of h.a l a → met_at h body l a ≡ some v
  unfolding met_at
  met_a e f = rw (eq-eqb h.a.body body e, f)

  pub met_b : (h.a.body ≡ body → ⊥) → h.b.body ≡ body → v ≡ met_of h.b l a → met_at h body l a ≡ some v
  unfolding met_at
  met_b n e f = rw (ne_eqb h.a.body body n, eq-eqb h.b.body body e, f)

pub met_none : (h : Arms) (body : ℕ) (l a : Vec3) → (h.a.body ≡ body → ⊥) → (h.b.body ≡ body → ⊥) → met_at h body l a ≡ none
unfolding met_at
met_none h body l a n k = rw (ne_eqb h.a.body body n, ne_eqb h.b.body body k)

-- "the rounded sum of two" has no order
pub sum_swap : (x y : Option Float) → sum_of x y ≡ sum_of y x
unfolding sum_of
sum_swap (some x) (some y) = ap some (add_swap binary64 x y)
sum_swap (some x) none = refl
sum_swap none (some y) = refl
sum_swap none none = refl

-- `value_with`: the higher body's cross first, whichever of the two that is
module _ (h : Arms) (p : RowJacobian) (a b : Maybe Float) (r : Float) (ea : met_at h p.body_a p.linear_a p.angular_a ≡ crossed_out a) (eb : met_at h p.body_b p.linear_b p.angular_b ≡ crossed_out b) where
  pub b_first : r ≡ number_of (sum_of (crossed_out b) (crossed_out a)) → r ≡ value_with h p
  unfolding value_with
  b_first e = rw (ea, eb) (e ∙ ap number_of (sum_swap (crossed_out b) (crossed_out a)))

  pub a_first : r ≡ number_of (sum_of (crossed_out a) (crossed_out b)) → r ≡ value_with h p
  unfolding value_with
  a_first e = rw (ea, eb) e

-- where two rows meet the body is the same, and so is its mass: an arm formed before gives the cross
met_cross : (mass : ℕ → SolverMass) (q : RowJacobian) (body : ℕ) (l a : Vec3) → met_at (arms_of mass q) body l a ≡ cross_at (mass body) l a (arm_of q body)
unfolding met_at arms_of arm_at met_of cross_at arm_of cross_of
met_cross mass q body l a = go (ℕ_discrete q.body_a body) (ℕ_discrete q.body_b body)
  where
    go : Dec (q.body_a ≡ body) → Dec (q.body_b ≡ body) → met_at (arms_of mass q) body l a ≡ cross_at (mass body) l a (arm_of q body)
    go (yes e) d = rw (eq-eqb q.body_a body e, e)
    go (no n) (yes e) = rw (ne_eqb q.body_a body n, eq-eqb q.body_b body e, e)
    go (no n) (no k) = rw (ne_eqb q.body_a body n, ne_eqb q.body_b body k)

value_with_lem : (jacobians : List Float) (links : List ℕ) (masses : List Float) (i j : ℕ) → value_with (arms_of (mass_of masses) (compact_of jacobians links i)) (compact_of jacobians links j) ≡ value_in jacobians links masses i j
unfolding value_with value_in pair_of
value_with_lem jacobians links masses i j =
    let q = compact_of jacobians links i in
    let p = compact_of jacobians links j in
    rw (met_cross (mass_of masses) q p.body_a p.linear_a p.angular_a, met_cross (mass_of masses) q p.body_b p.linear_b p.angular_b)

-- `value_row`
pub value_of : (jacobians : List Float) (links : List ℕ) (masses : List Float) (i j : ℕ) (h : Arms) (r : Float) → h ≡ arms_of (mass_of masses) (compact_of jacobians links i) → r ≡ value_with h (compact_of jacobians links j) → r ≡ value_in jacobians links masses i j
value_of jacobians links masses i j h r e f = f ∙ rw e (value_with_lem jacobians links masses i j)

-- the masses of a row's bodies are there
module _ (jacobians : List Float) (links : List ℕ) (masses : List Float) (rows bodies i : ℕ) (p : RowJacobian) (e : p ≡ compact_of jacobians links i) (h : Linked links rows bodies) (l : 10 * bodies ≤ length masses) (li : i < rows) where
  pub mass_a : 10 * p.body_a + 10 ≤ length masses
  unfolding compact_of
  mass_a = let b = h.a i (omega arith) in rw e (omega arith)

  pub mass_b : 10 * p.body_b + 10 ≤ length masses
  unfolding compact_of
  mass_b = let b = h.b i (omega arith) in rw e (omega arith)
