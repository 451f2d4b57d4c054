-- Room for the bodies of a row, in a slice of six doubles a body. Assumes nothing.
use Prim.Native.Nat.{ℕ, ◌+◌, ◌*◌, ◌<◌, ◌≤◌}
use mathlib.Core.Path.{◌≡◌}
use mathlib.Core.List.{List}
use native.Mathlib.Omega.{arith}
use lib.ListN.{length, get_or}
use lib.Ieee.{Float}
use Rattle.kapitsa_joint.specs.declared.row.RowJacobian.{RowJacobian}
use Rattle.compact_table.specs.Compact.{Linked}
use Rattle.mass_operator.specs.BodyPair.{Holding}
use Rattle.mass_operator.specs.declared.body_pair.BodyPair.{BodyPair}

module _ (links : List ℕ) (i rows bodies : ℕ) (t : Linked links rows bodies) (h : i < rows) (l : List Float) (e : length l ≡ 6 * bodies) where
  pub linked_a : 6 * get_or links (2 * i) 0 + 6 ≤ length l
  linked_a = omega (arith, t.a i h)

  pub linked_b : 6 * get_or links (2 * i + 1) 0 + 6 ≤ length l
  linked_b = omega (arith, t.b i h)

module _ (j : ℕ → RowJacobian) (x : ℕ → Float) (bodies i : ℕ) (l : List Float) (p : BodyPair) (h : Holding j x bodies i l p) where
  pub held_a : 6 * p.body_a + 6 ≤ length l
  held_a = omega (arith, h.long, h.below_a)

  pub held_b : 6 * p.body_b + 6 ≤ length l
  held_b = omega (arith, h.long, h.below_b)
