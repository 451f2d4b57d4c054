-- A loop that changes a list in place, one element a turn from the front, each by its index and what stands there. Assumes nothing.
use Prim.Native.Nat.{ℕ, ◌+◌, ◌<◌, ◌≤◌}
use mathlib.Core.Path.{◌≡◌, refl, ap, ◌∙◌}
use mathlib.Core.List.{List}
use native.Mathlib.Omega.{arith}
use native.Mathlib.Nat.{ne_of_lt, ne_of_gt}
use borrow.Author.Count.{below_none, below_more}
use lib.ListN.{length, get_or, set, length-set}
use lib.Seq.{get_or-set_same, get_or-set_other}
use Rattle.loops.specs.Tabulate.{tabulate}
use Rattle.loops.proofs.Tabulate.{tabulated}

-- the invariant: the first i elements of l are changed, and the others are those of l₀
pub record Changes {X : Type 0} (d : X) (h : ℕ → X → X) (l₀ : List X) (i : ℕ) (l : List X) : Type 0 where
  pub within : i ≤ length l₀
  pub long : length l ≡ length l₀
  pub agree : (k : ℕ) → k < i → get_or l k d ≡ h k (get_or l₀ k d)
  pub rest : (k : ℕ) → i ≤ k → get_or l k d ≡ get_or l₀ k d

module _ {X : Type 0} {d : X} {h : ℕ → X → X} {l₀ : List X} where
  pub changes_none : Changes d h l₀ 0 l₀
  changes_none = record { within = omega arith; long = refl; agree = below_none _; rest = λ k p. refl }

  pub changes_more : {i : ℕ} {l l' : List X} → Changes d h l₀ i l → i < length l₀ → l' ≡ set l i (h i (get_or l i d)) → Changes d h l₀ (i + 1) l'
  changes_more {i} {l} c b e =
      let lt : i < length l = omega (arith, c.long) in
      let v = h i (get_or l i d) in
      rw e (record {
        within = omega arith;
        long = length-set l i v ∙ c.long;
        agree = below_more _ _ (λ k p. get_or-set_other l i k v d (ne_of_lt p) ∙ c.agree k p) (get_or-set_same l i v d lt ∙ ap (h i) (c.rest i (omega arith)));
        rest = λ k p. get_or-set_other l i k v d (ne_of_gt (omega arith)) ∙ c.rest k (omega arith);
      })

  -- the list that the loop leaves
  pub changes_end : {i : ℕ} {l : List X} → Changes d h l₀ i l → length l₀ ≤ i → l ≡ tabulate (λ k. h k (get_or l₀ k d)) (length l₀)
  changes_end {i} {l} c b = tabulated d (λ k. h k (get_or l₀ k d)) (length l₀) l c.long (λ k p. c.agree k (omega arith))
