-- Refusal 28 lets a table pass exactly where each row is under one rule and no second; past 27 and 28 each row has a finite tolerance. Assumes nothing.
use Prim.Native.Nat.{ℕ, ◌<◌}
use mathlib.Core.Path.{◌≡◌, sym, subst}
use mathlib.Core.Bool.{Bool, true, ◌&&◌}
use mathlib.Core.List.{[], ◌∷◌}
use mathlib.Core.Logic.{◌↔◌}
use native.Mathlib.Omega.{arith}
use borrow.Author.Tests.{ltb-true, lt-ltb}
use lib.Dec.{T, leb, ltb}
use lib.Ieee.Scale.{finite}
use Rattle.loops.specs.Judge.{AllPass}
use Rattle.loops.proofs.Every.{every_iff}
use Rattle.loops.proofs.Both.{both}
use Rattle.loops.proofs.Ranges.{Listed}
use Rattle.kapitsa_joint.specs.Table.{Table}
use Rattle.joint_refusals.specs.Tolerances.{tolerance_fits}
use Rattle.joint_refusals.proofs.Measured.{fitting_finite}
use Rattle.rules.specs.Rules.{Rules, rule_count, rule_dimension, first_key, last_key, tolerance_at, rule_fits, passes27, applies, Only, rule_for, rule_of, passes28, Ruled, ruled_by}
use Rattle.rules.proofs.Only.{only_below_lem, only_is}

-- a row's own rule is the one that applies to it
abbrev pub Under : Rules → Table → ℕ → ℕ → Type 0
Under s t i r = let w = (t.row i).words in Only (applies s w.dimension w.key) (rule_count s) r

module _ (s : Rules) (t : Table) where
  pub rule_is : (i r : ℕ) → Under s t i r → rule_of s t i ≡ r
  unfolding rule_for
  rule_is i r o = let w = (t.row i).words in only_is (applies s w.dimension w.key) (rule_count s) r o

  pub rule_under : (i : ℕ) → rule_of s t i < rule_count s → Under s t i (rule_of s t i)
  unfolding rule_for
  rule_under i l = let w = (t.row i).words in only_below_lem (applies s w.dimension w.key) (rule_count s) l

  pub passes_28 : (passes28 s t ≡ true) ↔ Ruled s t
  unfolding passes28
  passes_28 = (
    λ h. record { under = λ i l. rule_under i (ltb-true _ _ ((every_iff below t.rows).0 h i l)) },
    λ h. (every_iff below t.rows).1 (λ i l. lt-ltb _ _ (h.under i l).below),
  )
    where
      below : ℕ → Bool
      below i = ltb (rule_of s t i) (rule_count s)

  -- accepted exactly where each row falls under one rule and no second
  pub unique_28 : (passes28 s t ≡ true) ↔ ((i : ℕ) → i < t.rows → (r : ℕ) × Only (applies s (t.row i).words.dimension (t.row i).words.key) (rule_count s) r)
  unique_28 = (
    λ h i l. (rule_of s t i, (passes_28.0 h).under i l),
    λ h. passes_28.1 (record { under = λ i l. let (r, o) = h i l in subst (Under s t i) (sym (rule_is i r o)) o }),
  )

  pub ruled_finite : AllPass (ruled_by s t).tests → (i : ℕ) → i < t.rows → T (finite ((ruled_by s t).row i))
  unfolding AllPass passes27 rule_fits
  ruled_finite p i l = fitting_finite _ (fits (rule_of s t i) ((every_iff (rule_fits s) (rule_count s)).0 p.0 (rule_of s t i) ((passes_28.0 p.1.0).under i l).below))
    where
      fits : (r : ℕ) → rule_fits s r ≡ true → tolerance_fits (tolerance_at s r) ≡ true
      fits r h = (both ((leb (first_key s r) (last_key s r) && leb (rule_dimension s r) 1) && leb (last_key s r) 255) (tolerance_fits (tolerance_at s r)) h).1

pub rules_above : (a b : Bool) → Listed (λ n. 1 < n) ((27, a) ∷ ((28, b) ∷ []))
unfolding Listed
rules_above a b = (omega arith, (omega arith, tt))
