-- What an answer of `factor` tells: the number of its refusal, and what is left free. Assumes nothing.
use Prim.Native.Nat.{ℕ, ◌-◌}
use mathlib.Core.Path.{◌≡◌, sym, ap, ◌∙◌}
use mathlib.Core.List.{List}
use lib.ListN.{length, drop, length-drop}
use lib.Ieee.{Float}
use Rattle.loops.specs.Run.{Run, going, ended, on}
use Rattle.loops.specs.Cleared.{Free}
use Rattle.sparse.specs.Cholesky.{Factor, or_thirteen}
use Rattle.sparse.specs.Answers.{FactorFree}

pub free : {X : Type 0} {l₀ l : List X} → length l ≡ length l₀ → Free l₀ l
free e = record { long = e }

-- what stands from k on
pub free_past : {X : Type 0} (k : ℕ) (l₀ l : List X) → length l ≡ length l₀ → Free (drop k l₀) (drop k l)
free_past k l₀ l e = record { long = length-drop k l ∙ ap (λ (n : ℕ). n - k) e ∙ sym (length-drop k l₀) }

module _ {f : Run Factor Factor} {s : Factor} where
  pub numbered_on : f ≡ going s → or_thirteen f ≡ going s
  unfolding on
  numbered_on e = rw e

  pub numbered_out : f ≡ ended s → or_thirteen f ≡ ended 13
  unfolding on
  numbered_out e = rw e

-- what a factor leaves free
pub factor_left : (count : ℕ) (values₀ values : List Float) (marks₀ marks : List ℕ) → length values ≡ length values₀ → length marks ≡ length marks₀ → FactorFree count values₀ values marks₀ marks
factor_left count values₀ values marks₀ marks a b = record { values_past = free_past count values₀ values a; all_marks = free b }
