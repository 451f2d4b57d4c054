-- A loop that replaces each number of a list, in place, by what g makes of it; `reaches_made` is where g makes a row's reach of its value. Assumes nothing.
use Prim.Native.Nat.{ℕ, ◌+◌, ◌<◌, ◌≤◌}
use mathlib.Core.Path.{◌≡◌, refl, ap, ◌∙◌}
use mathlib.Core.List.{List}
use native.Mathlib.Nat.{ne_of_lt}
use native.Mathlib.Omega.{arith}
use borrow.Author.Count.{below_none, below_more}
use lib.ListN.{length, get_or, set, length-set}
use lib.Seq.{get_or-set_same, get_or-set_other}
use lib.Ieee.{Float, nan}
use Rattle.loops.specs.Tabulate.{tabulate}
use Rattle.loops.proofs.Tabulate.{tabulated}
use Rattle.check_measure.specs.Verdict.{reach_of}
use Rattle.check_measure.specs.Rows.{reach_in}

-- the numbers below i are replaced, the others as they were
pub record Replaced (g : ℕ → Float → Float) (l₀ : List Float) (i : ℕ) (l : List Float) : Type 0 where
  pub within : i ≤ length l₀
  pub long : length l ≡ length l₀
  pub done : (k : ℕ) → k < i → get_or l k nan ≡ g k (get_or l₀ k nan)
  pub left : (k : ℕ) → i ≤ k → get_or l k nan ≡ get_or l₀ k nan

module _ {g : ℕ → Float → Float} where
  pub replaced_none : (l : List Float) → Replaced g l 0 l
  replaced_none l = record { within = omega arith; long = refl; done = below_none _; left = λ k h. refl }

  pub replaced_more : {l₀ l l' : List Float} {i : ℕ} {v : Float} → Replaced g l₀ i l → i < length l → v ≡ g i (get_or l i nan) → l' ≡ set l i v → Replaced g l₀ (i + 1) l'
  replaced_more {l₀} {l} {l'} {i} {v} h b p e = rw e (record {
    within = omega (arith, h.long);
    long = length-set l i v ∙ h.long;
    done = below_more _ _ (λ k q. get_or-set_other l i k v nan (ne_of_lt q) ∙ h.done k q) (get_or-set_same l i v nan b ∙ p ∙ ap (g i) (h.left i (omega arith)));
    left = λ k q. get_or-set_other l i k v nan (above k i q) ∙ h.left k (omega arith);
  })
    where
      above : (k i : ℕ) → i + 1 ≤ k → k ≡ i → ⊥
      above k i q e = omega arith

-- what makes a reach of a value
unfoldable pub reaching : ℕ → (ℕ → Float) → List Float → ℕ → Float → Float
reaching n error sizes i value = reach_of n (error i) value (get_or sizes i nan)

pub reaches_more : (error : ℕ → Float) (sizes : List Float) {n i : ℕ} {values l l' : List Float} {x v : Float} → Replaced (reaching n error sizes) values i l → length values ≡ n → i < n → x ≡ error i → v ≡ reach_of n x (get_or l i nan) (get_or sizes i nan)
    → l' ≡ set l i v → Replaced (reaching n error sizes) values (i + 1) l'
unfolding reaching
reaches_more error sizes {n} {i} {l = l} h e b y p q = replaced_more h (omega (arith, h.long)) (p ∙ ap (λ (x : Float). reach_of n x (get_or l i nan) (get_or sizes i nan)) y) q

pub reaches_made : (error : ℕ → Float) (sizes : List Float) {n i : ℕ} {values l : List Float} → Replaced (reaching n error sizes) values i l → length values ≡ n → n ≤ i → l ≡ tabulate (reach_in error values sizes n) n
unfolding reach_in reaching
reaches_made error sizes {n} {i} {values} {l} h e b = tabulated nan (reach_in error values sizes n) n l (h.long ∙ e) (λ k p. h.done k (omega arith))
