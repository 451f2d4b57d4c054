-- The tests after refusal 3, one by one, and what a table tells that they let pass. Assumes nothing.
use Prim.Native.Nat.{ℕ, ◌*◌, ◌≤◌}
use mathlib.Core.Path.{◌≡◌, sym, ap, ◌∙◌}
use mathlib.Core.Bool.{Bool, true, false, not, ◌&&◌, true≢false}
use mathlib.Core.List.{List, [], ◌∷◌, ◌++◌}
use lib.ListN.{length}
use lib.Ieee.{Float, neg}
use borrow.Author.Tests.{not-true}
use Rattle.loops.specs.Run.{Run, ended}
use Rattle.loops.specs.Every.{every}
use Rattle.loops.specs.Judge.{judge, AllPass}
use Rattle.loops.proofs.Judge.{both_pass, judge_fail, judge_pass}
use Rattle.kapitsa_joint.specs.Row.{scalars_of, words_of, row_of}
use Rattle.kapitsa_joint.specs.Table.{Table, table_of}
use Rattle.kapitsa_joint.specs.Kind.{by_kind}
use Rattle.kapitsa_joint.specs.declared.kind.Kind.{Kind}
use Rattle.kapitsa_joint.specs.declared.kind.Kind.TheVariants as kinds
use Rattle.joint_refusals.specs.Refusals.{words_fit_of, passes4, passes6, passes7, passes20}
use Rattle.rules.specs.Rules.{Rules, passes28}
use Rattle.rules.specs.Rows.{rows_ruled}
use Rattle.rules.proofs.Lent.{lent_28}
use Rattle.mass_operator.specs.Flat.{coefficients}
use Rattle.check_range.specs.Closing.{Closing, row_error, error_in, given_finite, GivenFrom}
use Rattle.check_range.specs.Range.{table_in_range, passes18}
use Rattle.check_refusals.specs.Judged.{table_tests}

-- ---- refusal 4 reads the words alone
pub words_pass : (rows bodies : ℕ) (numbers : List Float) (words : List ℕ) (masses : List Float) {p : Bool} → p ≡ every (λ i. words_fit_of (words_of words (8 * i))) rows → p ≡ passes4 (table_of rows bodies numbers words masses)
unfolding passes4 row_of
words_pass rows bodies numbers words masses e = e

-- ---- and so does 28
pub rows_pass : (s : Rules) (rows bodies : ℕ) (numbers : List Float) (words : List ℕ) (masses : List Float) {p : Bool} → p ≡ rows_ruled s words rows → p ≡ passes28 s (table_of rows bodies numbers words masses)
rows_pass s rows bodies numbers words masses e = e ∙ lent_28 s rows bodies numbers words masses

-- ---- and 6 judges the centres with the masses
pub placed_pass : (placed : Bool) {p q : Bool} → p ≡ q → (p && placed) ≡ (q && placed)
placed_pass placed e = ap (λ (b : Bool). b && placed) e

-- ---- 18 reads the error of its kind out of the lent lists
module _ (kind : Kind) (given : List Float) (rows bodies : ℕ) (numbers : List Float) (words : List ℕ) (masses : List Float) (listed : ℕ → Float) where
  abbrev t : Table
  t = table_of rows bodies numbers words masses

  pub range_pass : {p : Bool} → p ≡ table_in_range t (error_in kind numbers given) listed → p ≡ table_in_range t (λ i. by_kind kind (row_error t i) (neg (coefficients given i))) listed
  unfolding row_of scalars_of
  range_pass e = e

-- ---- 20: of velocities a test, of positions none
module _ (kind : Kind) (residual : ℕ → Float) (rows : ℕ) {p : Bool} (l : List (ℕ × Bool)) (e : p ≡ given_finite kind residual rows) where
  abbrev given : List (ℕ × Bool)
  given = by_kind kind [] ((20, passes20 residual rows) ∷ []) ++ l

  pub given_fail : not p ≡ true → judge given ≡ ended 20
  given_fail h = go kind e
    where
      go : (k : Kind) → p ≡ given_finite k residual rows → judge (by_kind k [] ((20, passes20 residual rows) ∷ []) ++ l) ≡ ended 20
      go kinds.Position e = absurd (true≢false (sym e ∙ not-true p h))
      go kinds.Velocity e = judge_fail 20 (passes20 residual rows) l e h

  pub given_pass : {o : Run Unit ℕ} → not p ≡ false → judge l ≡ o → judge given ≡ o
  given_pass {o} h q = go kind e
    where
      go : (k : Kind) → p ≡ given_finite k residual rows → judge (by_kind k [] ((20, passes20 residual rows) ∷ []) ++ l) ≡ o
      go kinds.Position e = q
      go kinds.Velocity e = judge_pass 20 (passes20 residual rows) l e h q

-- ---- the ways of `given_finite`
module _ {kind : Kind} (given : List Float) (rows : ℕ) where
  pub none_given : kind ≡ kinds.Position → true ≡ given_finite kind (coefficients given) rows
  none_given k = rw k

  pub given_judged : {r : Bool} → kind ≡ kinds.Velocity → r ≡ passes20 (coefficients given) rows → r ≡ given_finite kind (coefficients given) rows
  given_judged k e = rw k e

  pub given_long : GivenFrom kind (length given) rows → kind ≡ kinds.Velocity → rows ≤ length given
  given_long h k = h.long k

-- ---- what a list of which all pass tells
module _ (c : Closing) (p : AllPass (table_tests c)) where
  after_4 : AllPass c.tolerance_tests × AllPass ((6, passes6 c.table && c.placed) ∷ (c.lent ++ ((7, passes7 c.table) ∷ (18, passes18 c) ∷ [])))
  unfolding AllPass
  after_4 = both_pass c.tolerance_tests ((6, passes6 c.table && c.placed) ∷ (c.lent ++ ((7, passes7 c.table) ∷ (18, passes18 c) ∷ []))) p.1

  pub passed_tolerances : AllPass c.tolerance_tests
  passed_tolerances = after_4.0

  after_6 : AllPass c.lent × AllPass ((7, passes7 c.table) ∷ (18, passes18 c) ∷ [])
  unfolding AllPass
  after_6 = both_pass c.lent ((7, passes7 c.table) ∷ (18, passes18 c) ∷ []) after_4.1.1

  pub passed_7 : passes7 c.table ≡ true
  unfolding AllPass
  passed_7 = after_6.1.0

  pub passed_18 : passes18 c ≡ true
  unfolding AllPass
  passed_18 = after_6.1.1.0
