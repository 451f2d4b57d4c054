-- An accepted answer in the words of demand 3: its count is the first step that meets, or the limit, and its flag says which. Assumes nothing.
use Prim.Native.Nat.{◌≤◌, ℕ}
use mathlib.Core.Bool.{Bool, false, true}
use mathlib.Core.Logic.{◌↔◌, ⊎_elim}
use mathlib.Core.Path.{◌∙◌, ◌≡◌, sym}
use native.Mathlib.Decide.{dec_le}
use native.Mathlib.Omega.{arith}
use borrow.Author.Count.{below_more}
use Rattle.loops.proofs.Inverse.{saw_bool}
use Rattle.steps.proofs.Steps.{meets_of_lem, miss, missed_or_met}
use Rattle.steps.specs.Meaning.{Accepted}
use Rattle.steps.specs.Method.{Method}
use Rattle.steps.specs.Steps.{meets_at, misses_at}

module _ {S C F : Type 0} (m : Method S C F) (limit : ℕ) (flag : Bool) (count : ℕ) (v : S) (f : F) (a : Accepted m limit flag count v f) where
  -- ---- "its count is the first step, from 0 to the limit, whose residual meets every row's tolerance, or the limit where none does"

  -- no step before the count meets
  pub count_least : (k : ℕ) → meets_at m k ≡ true → count ≤ k
  count_least k e =
      elim (dec_le count k) as (λ _. count ≤ k) [ yes l ↦ l | no l ↦ absurd (missed_or_met m k (a.counted.earlier k (omega arith)) e) ]

  -- the step counted meets where the flag is 1, and where it is 0 no step up to the limit does
  flag_on : flag ≡ true → meets_at m count ≡ true
  flag_on e = meets_of_lem m count v a.counted.made ∙ (sym a.counted.verdict ∙ e)

  flag_off : flag ≡ false → (k : ℕ) → k ≤ limit → meets_at m k ≡ true → ⊥
  flag_off e k l h =
      let last : misses_at m count ≡ true = miss m count v a.counted.made (sym a.counted.verdict ∙ e) in
      let full = a.counted.spent e in
      missed_or_met m k (below_more _ count a.counted.earlier last k (omega arith)) h

  -- where a step from 0 to the limit meets, so does the one counted
  pub count_meets : (k : ℕ) → k ≤ limit → meets_at m k ≡ true → meets_at m count ≡ true
  count_meets k l h = ⊎_elim flag_on (λ e. absurd (flag_off e k l h)) (saw_bool flag)

  -- where none does, the count is the limit
  pub count_limit : ((k : ℕ) → k ≤ limit → ¬ (meets_at m k ≡ true)) → count ≡ limit
  count_limit none = ⊎_elim (λ e. absurd (none count a.counted.within (flag_on e))) a.counted.spent (saw_bool flag)

  -- ---- "its flag is 1 exactly when there is such a step"
  pub flag_exactly : (flag ≡ true) ↔ ((k : ℕ) × (k ≤ limit) × (meets_at m k ≡ true))
  flag_exactly = (λ e. (count, a.counted.within, flag_on e), λ s. ⊎_elim (λ e. e) (λ e. absurd (flag_off e s.0 s.1 s.2)) (saw_bool flag))
