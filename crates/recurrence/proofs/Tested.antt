-- A loop that changes a list in place and tells whether all that it wrote is finite. Assumes nothing.
use Prim.Native.Nat.{ℕ, ◌+◌, ◌<◌, ◌≤◌}
use mathlib.Core.Path.{◌≡◌, sym, ap, ◌∙◌}
use mathlib.Core.Bool.{Bool, true, ◌&&◌}
use mathlib.Core.List.{List}
use native.Mathlib.Omega.{arith}
use lib.ListN.{length, get_or, set}
use lib.Ieee.{Float, nan}
use lib.Ieee.Scale.{finite}
use Rattle.loops.specs.Every.{every}
use Rattle.loops.proofs.Every.{every_same}
use Rattle.mass_operator.specs.Applied.{all_finite_of}
use Rattle.mass_operator.proofs.AllFinite.{SoFar, so_far_none, so_far_more, so_far_end}
use Rattle.preconditioner.proofs.InPlace.{Changes, changes_none, changes_more}

-- the invariant: what is told so far is of the numbers written
pub record Tested (h : ℕ → Float → Float) (l₀ : List Float) (i : ℕ) (l : List Float) (all : Bool) : Type 0 where
  pub changed : Changes nan h l₀ i l
  pub told : SoFar (λ k. finite (h k (get_or l₀ k nan))) (length l₀) i all

module _ {h : ℕ → Float → Float} {l₀ : List Float} where
  pub tested_none : Tested h l₀ 0 l₀ true
  tested_none = record { changed = changes_none; told = so_far_none }

  pub tested_more : {i : ℕ} {l l' : List Float} {all b : Bool} → Tested h l₀ i l all → i < length l₀ → l' ≡ set l i (h i (get_or l i nan)) → b ≡ finite (h i (get_or l i nan)) → Tested h l₀ (i + 1) l' (all && b)
  tested_more {i} t p e f = record { changed = changes_more t.changed p e; told = so_far_more t.told p (f ∙ ap (λ (v : Float). finite (h i v)) (t.changed.rest i (omega arith))) }

  -- once all is written
  pub tested_end : {i : ℕ} {l : List Float} {all : Bool} → Tested h l₀ i l all → length l₀ ≤ i → all ≡ all_finite_of l
  unfolding all_finite_of
  tested_end {i} {l} t p =
      so_far_end t.told p
      ∙ sym (every_same (λ k. finite (get_or l k nan)) (λ k. finite (h k (get_or l₀ k nan))) (length l₀) (λ k q. ap finite (t.changed.agree k (omega arith))))
      ∙ ap (every (λ k. finite (get_or l k nan))) (sym t.changed.long)
