-- The two tolerances of a job as two rules over keys 0 to 255: 27 turns back what 26 does, 28 never comes, and each row has its dimension's tolerance. Assumes nothing.
use Prim.Native.Nat.{ℕ, zero, suc, ◌<◌, ◌≤◌}
use mathlib.Core.Path.{◌≡◌, refl, ap, ◌∙◌}
use mathlib.Core.Bool.{Bool, true, false, ◌&&◌, false≢true}
use native.Mathlib.Omega.{arith}
use borrow.Author.Tests.{le-leb, leb-true}
use lib.Dec.{leb, eqb}
use Rattle.loops.specs.Run.{check}
use Rattle.loops.specs.Every.{every}
use Rattle.loops.proofs.Every.{every_iff}
use Rattle.loops.proofs.Both.{both}
use Rattle.kapitsa_joint.specs.Table.{Table, by_dimension}
use Rattle.kapitsa_joint.specs.Tolerance.{dimension_of, tolerance_of}
use Rattle.kapitsa_joint.specs.declared.row.RowWords.{RowWords}
use Rattle.kapitsa_joint.specs.declared.tolerance.JointTolerance.{JointTolerance}
use Rattle.joint_refusals.specs.Refusals.{words_fit_of, passes4}
use Rattle.joint_refusals.specs.Tolerances.{tolerance_fits, passes26}
use Rattle.rules.specs.Rules.{tolerance_at, rule_fits, passes27, applies, Only, rule_of, passes28, ruled_by, two_rules}
use Rattle.rules.proofs.Ruled.{rule_is, unique_28}

-- ---- what 4 tells of a row's key and dimension
pub words_fit_lem : (w : RowWords) → words_fit_of w ≡ true → (w.key ≤ 255) × (w.dimension ≤ 1)
unfolding words_fit_of
words_fit_lem w h =
    let (a, _) = both (((leb w.key 255 && leb w.dimension 1) && leb w.force_driven 1) && leb w.position_enabled 1) (eqb w.spare 0) h in
    let (b, _) = both ((leb w.key 255 && leb w.dimension 1) && leb w.force_driven 1) (leb w.position_enabled 1) a in
    let (c, _) = both (leb w.key 255 && leb w.dimension 1) (leb w.force_driven 1) b in
    let (k, d) = both (leb w.key 255) (leb w.dimension 1) c in
    (leb-true _ _ k, leb-true _ _ d)

pub row_words : (t : Table) → passes4 t ≡ true → (i : ℕ) → i < t.rows → ((t.row i).words.key ≤ 255) × ((t.row i).words.dimension ≤ 1)
unfolding passes4
row_words t h i l = words_fit_lem (t.row i).words ((every_iff (λ i. words_fit_of (t.row i).words) t.rows).0 h i l)

module _ (tolerance : JointTolerance) where
  two_only : (d k : ℕ) → d ≤ 1 → k ≤ 255 → Only (applies (two_rules tolerance) d k) 2 d
  unfolding applies
  two_only zero k p q = record { below = omega arith; holds = rw (le-leb 0 k (omega arith), le-leb k 255 q); alone = other }
    where
      other : (r : ℕ) → r < 2 → applies (two_rules tolerance) 0 k r ≡ true → r ≡ 0
      other zero b h = refl
      other (suc zero) b h = absurd (false≢true h)
      other (suc (suc r)) b h = absurd (omega arith)
  two_only (suc zero) k p q = record { below = omega arith; holds = rw (le-leb 0 k (omega arith), le-leb k 255 q); alone = other }
    where
      other : (r : ℕ) → r < 2 → applies (two_rules tolerance) 1 k r ≡ true → r ≡ 1
      other zero b h = absurd (false≢true h)
      other (suc zero) b h = refl
      other (suc (suc r)) b h = absurd (omega arith)
  two_only (suc (suc d)) k p q = absurd (omega arith)

  -- 27 comes exactly where 26 would
  pub two_fit : passes27 (two_rules tolerance) ≡ passes26 tolerance
  unfolding passes27 passes26 every rule_fits check
  two_fit = go (tolerance_fits tolerance.linear_m) (tolerance_fits tolerance.angular_rad)
    where
      go : (p q : Bool) → check (check true p false) q false ≡ (p && q)
      go true q = refl
      go false true = refl
      go false false = refl

  module _ (t : Table) (four : passes4 t ≡ true) where
    under_own : (i : ℕ) → i < t.rows → let w = (t.row i).words in Only (applies (two_rules tolerance) w.dimension w.key) 2 w.dimension
    under_own i l = let (k, d) = row_words t four i l in two_only _ _ d k

    pub two_rule : (i : ℕ) → i < t.rows → rule_of (two_rules tolerance) t i ≡ (t.row i).words.dimension
    two_rule i l = rule_is (two_rules tolerance) t i _ (under_own i l)

    -- 28 never comes
    pub two_ruled : passes28 (two_rules tolerance) t ≡ true
    two_ruled = (unique_28 (two_rules tolerance) t).1 (λ i l. ((t.row i).words.dimension, under_own i l))

    -- each row has exactly its dimension's tolerance
    pub two_tolerance : (i : ℕ) → i < t.rows → (ruled_by (two_rules tolerance) t).row i ≡ by_dimension tolerance t i
    unfolding dimension_of tolerance_of
    two_tolerance i l = ap (tolerance_at (two_rules tolerance)) (two_rule i l) ∙ own (t.row i).words.dimension (row_words t four i l).1
      where
        own : (d : ℕ) → d ≤ 1 → tolerance_at (two_rules tolerance) d ≡ tolerance_of tolerance (dimension_of d)
        own zero h = refl
        own (suc zero) h = refl
        own (suc (suc d)) h = absurd (omega arith)
