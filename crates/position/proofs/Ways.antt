-- The ways through the functions that prepare a row. Assumes nothing.
use Prim.Native.Nat.{ℕ}
use mathlib.Core.Path.{◌≡◌, ◌∙◌}
use mathlib.Core.Bool.{Bool, true, false, not, cond}
use mathlib.Core.List.{List, [], ◌∷◌}
use borrow.Author.Tests.{not-true, not-false}
use lib.Ieee.{Float, binary64, add, le, lt}
use lib.Ieee.Scale.{finite}
use Rattle.loops.specs.Run.{Run, going, ended, on, next, check}
use Rattle.loops.specs.Judge.{judge, test}
use Rattle.loops.specs.Cleared.{plus_zero}
use Rattle.binary64.specs.Order.{absolute, min_positive}
use Rattle.kapitsa_joint.specs.Row.{row_of}
use Rattle.kapitsa_joint.specs.Mass.{mass_of, cross_of, diagonal_of}
use Rattle.kapitsa_joint.specs.Table.{Table, table_of, tolerances_in}
use Rattle.kapitsa_joint.specs.declared.row.ConstraintRow.{ConstraintRow}
use Rattle.kapitsa_joint.specs.declared.mass.SolverMass.{SolverMass}
use Rattle.joint_refusals.specs.Refusals.{is_valid_of}
use Rattle.position.specs.Problem.{started_problem}
use Rattle.position.specs.Prepare.{one, row_diagonal, passes8, is_low, passes9, row_judged, prepared_diagonal, prepared_residual}

-- ---- `row_diagonal`
pub diagonal_is : (masses : List Float) (r : ConstraintRow) (v w : ℕ) (m n : SolverMass) (a b : Float) → m ≡ mass_of masses v → v ≡ r.words.body_a → n ≡ mass_of masses w → w ≡ r.words.body_b
    → a ≡ cross_of m r.linear_a r.angular_a r.linear_a r.angular_a → b ≡ cross_of n r.linear_b r.angular_b r.linear_b r.angular_b
    → add binary64 a b ≡ row_diagonal (mass_of masses) r
unfolding row_diagonal diagonal_of
diagonal_is masses r v w m n a b em ev en ew ea eb = rw (ea, eb, em, en, ev, ew)

-- ---- `judge_diagonal`
abbrev pub diagonal_judged : Float → Float → Float → Run (Float × Float) ℕ
diagonal_judged d residual tolerance = next (judge ((8, passes8 d) ∷ ((9, passes9 d residual tolerance) ∷ []))) (λ _. going (cond (is_low d) one d, cond (is_low d) plus_zero residual))

module _ (d residual tolerance : Float) (t : Bool) (et : t ≡ finite d) where
  pub judged_eight : not t ≡ true → diagonal_judged d residual tolerance ≡ ended 8
  unfolding judge test check on passes8
  judged_eight h = rw (← et, not-true t h)

  module _ (h : not t ≡ false) where
    pub judged_high : le d min_positive ≡ false → diagonal_judged d residual tolerance ≡ going (d, residual)
    unfolding judge test check on passes8 passes9 is_low
    judged_high l = rw (← et, not-false t h, l)

    module _ (s : Float) (es : s ≡ absolute residual) (l : le d min_positive ≡ true) where
      pub judged_nine : lt tolerance s ≡ true → diagonal_judged d residual tolerance ≡ ended 9
      unfolding judge test check on passes8 passes9 is_low
      judged_nine g = rw (← et, not-false t h, l, ← es, g)

      pub judged_low : lt tolerance s ≡ false → diagonal_judged d residual tolerance ≡ going (one, plus_zero)
      unfolding judge test check on passes8 passes9 is_low
      judged_low g = rw (← et, not-false t h, l, ← es, g)

-- ---- `prepare_row`
module _ (rows bodies : ℕ) (numbers : List Float) (words : List ℕ) (masses tolerances : List Float) (residual : Float) (i : ℕ) where
  abbrev t : Table
  t = table_of rows bodies numbers words masses

  abbrev row_prepared : Run (Float × Float) ℕ
  row_prepared = next (row_judged (started_problem false t (tolerances_in tolerances) (λ _. residual)) i) (λ _. going (prepared_diagonal t i, prepared_residual t (λ _. residual) i))

  module _ (v : Bool) (ev : v ≡ is_valid_of bodies (row_of numbers words i)) where
    pub row_seven : not v ≡ true → row_prepared ≡ ended 7
    unfolding row_judged judge test check on
    row_seven h = rw (← ev, not-true v h)

    pub row_on : (r : ConstraintRow) (d : Float) {o : Run (Float × Float) ℕ} → not v ≡ false → r ≡ row_of numbers words i → d ≡ row_diagonal (mass_of masses) r
        → diagonal_judged d residual (tolerances_in tolerances i) ≡ o → row_prepared ≡ o
    unfolding row_judged prepared_diagonal prepared_residual judge test check on
    row_on r d h er ed e = rw (← ev, not-false v h, ← er, ← ed) e

-- ---- `valid_before`
module _ (first : Bool) (v : Bool) where
  pub before_none : not first ≡ true → true ≡ check first v true
  unfolding check
  before_none h = rw (not-true first h)

  pub before_all : {r : Bool} → not first ≡ false → r ≡ v → r ≡ check first v true
  unfolding check
  before_all h e = e ∙ rw (not-false first h)
