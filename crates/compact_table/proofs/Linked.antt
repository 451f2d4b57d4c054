-- The body numbers of a linked table. Assumes nothing.
use Prim.Native.Nat.{ℕ, ◌<◌}
use mathlib.Core.Path.{◌≡◌}
use mathlib.Core.List.{List}
use lib.Ieee.{Float}
use Rattle.compact_table.specs.Compact.{compact_of, Linked}

module _ (jacobians : List Float) (links : List ℕ) (i rows bodies : ℕ) (t : Linked links rows bodies) (h : i < rows) where
  pub below_a : (compact_of jacobians links i).body_a < bodies
  unfolding compact_of
  below_a = t.a i h

  pub below_b : (compact_of jacobians links i).body_b < bodies
  unfolding compact_of
  below_b = t.b i h

pub linked_same : (links : List ℕ) (m n bodies : ℕ) → m ≡ n → Linked links n bodies → Linked links m bodies
linked_same links m n bodies e h = rw e h
