-- Document 02, i: "Two rows meet on at most two bodies, so the pair value must be shown to have the same bits, and refusal 12 must fall on the same jobs as before." Assumes nothing.
use Prim.Native.Nat.{ℕ}
use mathlib.Core.Path.{◌≡◌, refl, ap, fun_ext}
use mathlib.Core.Bool.{Bool, true, false, cond, ◌&&◌}
use mathlib.Core.Option.{Option, none}
use lib.Dec.{ltb}
use lib.Ieee.{Float}
use Rattle.kapitsa_joint.specs.declared.row.RowJacobian.{RowJacobian}
use Rattle.kapitsa_joint.specs.declared.mass.SolverMass.{SolverMass}
use Rattle.loops.specs.Run.{Run}
use Rattle.mass_operator.specs.System.{System}
use Rattle.sparse.specs.Triangle.{Sparse}
use Rattle.pairs.specs.Pairs.{arm_of, cross_at, sum_of, pair_of, pairs_of}
use Rattle.pairs.specs.Answers.{judged_pairs, pairs_run, paired_in, paired_of}
use Rattle.pairs.proofs.Crosses.{sum_swap}

-- the crosses at the two bodies of the lower row p
abbrev share_a : (ℕ → SolverMass) → RowJacobian → RowJacobian → Option Float
share_a mass p q = cross_at (mass p.body_a) p.linear_a p.angular_a (arm_of q p.body_a)

abbrev share_b : (ℕ → SolverMass) → RowJacobian → RowJacobian → Option Float
share_b mass p q = cross_at (mass p.body_b) p.linear_b p.angular_b (arm_of q p.body_b)

-- the bodies ascending, as pcg.rs takes them
unfoldable pub lower_first : (ℕ → SolverMass) → RowJacobian → RowJacobian → Option Float
lower_first mass p q = cond (ltb p.body_b p.body_a) (sum_of (share_b mass p q) (share_a mass p q)) (sum_of (share_a mass p q) (share_b mass p q))

-- "the higher body's share first"
unfoldable pub higher_first : (ℕ → SolverMass) → RowJacobian → RowJacobian → Option Float
higher_first mass p q = cond (ltb p.body_b p.body_a) (sum_of (share_a mass p q) (share_b mass p q)) (sum_of (share_b mass p q) (share_a mass p q))

-- ---- "the same bits"
module _ (mass : ℕ → SolverMass) (p q : RowJacobian) where
  pub lower_first_lem : lower_first mass p q ≡ pair_of mass p q
  unfolding lower_first pair_of
  lower_first_lem = go (ltb p.body_b p.body_a)
    where
      go : (d : Bool) → cond d (sum_of (share_b mass p q) (share_a mass p q)) (sum_of (share_a mass p q) (share_b mass p q)) ≡ sum_of (share_a mass p q) (share_b mass p q)
      go true = sum_swap (share_b mass p q) (share_a mass p q)
      go false = refl

  pub higher_first_lem : higher_first mass p q ≡ pair_of mass p q
  unfolding higher_first pair_of
  higher_first_lem = go (ltb p.body_b p.body_a)
    where
      go : (d : Bool) → cond d (sum_of (share_a mass p q) (share_b mass p q)) (sum_of (share_b mass p q) (share_a mass p q)) ≡ sum_of (share_a mass p q) (share_b mass p q)
      go true = refl
      go false = sum_swap (share_b mass p q) (share_a mass p q)

-- ---- "the same jobs"

-- the triangle of pairs, with each pair's value given by `value`
unfoldable pub pairs_by : ((ℕ → SolverMass) → RowJacobian → RowJacobian → Option Float) → System → Sparse
pairs_by value s i j = cond (ltb i s.rows && ltb j i) (value s.mass (s.jacobian j) (s.jacobian i)) none

-- refusals 10 and 12 with those values
abbrev pub paired_by : ((ℕ → SolverMass) → RowJacobian → RowJacobian → Option Float) → System → Run ℕ ℕ
paired_by value s = paired_in s (judged_pairs s (pairs_by value s))

-- values that agree pair by pair
module _ (value : (ℕ → SolverMass) → RowJacobian → RowJacobian → Option Float) (same : (mass : ℕ → SolverMass) (p q : RowJacobian) → value mass p q ≡ pair_of mass p q) (s : System) where
  pub by_pair : (i j : ℕ) → pairs_by value s i j ≡ pairs_of s i j
  unfolding pairs_by pairs_of
  by_pair i j = rw (same s.mass (s.jacobian j) (s.jacobian i))

  pub by_answer : paired_by value s ≡ paired_of s
  unfolding paired_of pairs_run
  by_answer = ap (λ (L : Sparse). paired_in s (judged_pairs s L)) (fun_ext (λ i. fun_ext (λ j. by_pair i j)))

-- the count, 10 or 12: the same answer in either order
pub either_answer : (s : System) → (paired_by lower_first s ≡ paired_of s) × (paired_by higher_first s ≡ paired_of s)
either_answer s = (by_answer lower_first lower_first_lem s, by_answer higher_first higher_first_lem s)
