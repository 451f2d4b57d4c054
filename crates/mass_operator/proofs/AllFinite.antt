-- A test of every number that goes on where one fails: what is told so far is the test of the indices below i. Assumes nothing.
use Prim.Native.Nat.{ℕ, ◌+◌, ◌<◌, ◌≤◌}
use mathlib.Core.Path.{◌≡◌, refl}
use mathlib.Core.Bool.{Bool, true, false, ◌&&◌}
use native.Mathlib.Numerals.{add-one}
use native.Mathlib.Omega.{arith}
use Rattle.loops.specs.Run.{check}
use Rattle.loops.specs.Every.{every}
use Rattle.loops.proofs.Loop.{loops}

pub record SoFar (p : ℕ → Bool) (n i : ℕ) (b : Bool) : Type 0 where
  pub within : i ≤ n
  pub told : b ≡ every p i

-- a Bool that both tests give
both_told : (a b : Bool) → (a && b) ≡ check a b false
unfolding check
both_told true b = refl
both_told false b = refl

module _ {p : ℕ → Bool} {n : ℕ} where
  pub so_far_none : SoFar p n 0 true
  unfolding every
  so_far_none = record { within = omega arith; told = refl }

  pub so_far_more : {i : ℕ} {a b : Bool} → SoFar p n i a → i < n → b ≡ p i → SoFar p n (i + 1) (a && b)
  unfolding every
  so_far_more {i} {a} {b} h l e = record { within = omega arith; told = rw (add-one, h.told, e) (both_told (every p i) (p i)) }

  pub so_far_end : {i : ℕ} {a : Bool} → SoFar p n i a → n ≤ i → a ≡ every p n
  so_far_end {i} h l = let w = h.within in let e : i ≡ n = omega arith in rw e at h.told

pub ruleset sofar = (so_far_none, so_far_more, so_far_end, loops)
