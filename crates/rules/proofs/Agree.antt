-- Where all rules of a dimension agree, each row has the tolerance of its dimension, as in the Rust. Assumes nothing.
use Prim.Native.Nat.{ℕ, zero, suc, ◌<◌, ◌≤◌}
use mathlib.Core.Path.{◌≡◌}
use mathlib.Core.Bool.{true, ◌&&◌}
use native.Mathlib.Omega.{arith}
use borrow.Author.Tests.{eqb-true}
use lib.Dec.{leb, eqb}
use Rattle.loops.proofs.Both.{both}
use Rattle.kapitsa_joint.specs.Table.{Table, by_dimension}
use Rattle.kapitsa_joint.specs.Tolerance.{dimension_of, tolerance_of}
use Rattle.kapitsa_joint.specs.declared.tolerance.JointTolerance.{JointTolerance}
use Rattle.joint_refusals.specs.Refusals.{passes4}
use Rattle.rules.specs.Rules.{Rules, rule_count, rule_dimension, first_key, last_key, tolerance_at, applies, rule_of, passes28, ruled_by}
use Rattle.rules.proofs.Ruled.{passes_28}
use Rattle.rules.proofs.Two.{row_words}

applies_dimension : (s : Rules) (dimension key r : ℕ) → applies s dimension key r ≡ true → rule_dimension s r ≡ dimension
unfolding applies
applies_dimension s dimension key r h =
    let (a, _) = both (eqb (rule_dimension s r) dimension && leb (first_key s r) key) (leb key (last_key s r)) h in
    eqb-true _ _ (both (eqb (rule_dimension s r) dimension) (leb (first_key s r) key) a).0

pub agree : (s : Rules) (tolerance : JointTolerance) (t : Table) → passes4 t ≡ true → passes28 s t ≡ true
    → ((r : ℕ) → r < rule_count s → (rule_dimension s r ≡ 0 → tolerance_at s r ≡ tolerance.linear_m) × (rule_dimension s r ≡ 1 → tolerance_at s r ≡ tolerance.angular_rad))
    → (i : ℕ) → i < t.rows → (ruled_by s t).row i ≡ by_dimension tolerance t i
unfolding dimension_of tolerance_of
agree s tolerance t four ruled h i l =
    let o = ((passes_28 s t).0 ruled).under i l in
    go (t.row i).words.dimension (row_words t four i l).1 (rule_of s t i) o.below (applies_dimension s _ _ _ o.holds)
  where
    go : (d : ℕ) → d ≤ 1 → (r : ℕ) → r < rule_count s → rule_dimension s r ≡ d → tolerance_at s r ≡ tolerance_of tolerance (dimension_of d)
    go zero b r below e = (h r below).0 e
    go (suc zero) b r below e = (h r below).1 e
    go (suc (suc d)) b r below e = absurd (omega arith)
