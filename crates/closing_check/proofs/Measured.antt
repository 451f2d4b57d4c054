-- The verdict from the measured rows. Assumes nothing.
use Prim.Native.Nat.{ℕ, ◌+◌, ◌*◌, ◌<◌}
use mathlib.Core.Path.{◌≡◌, refl, sym, ap, ◌∙◌}
use mathlib.Core.Bool.{Bool, true, false}
use mathlib.Core.List.{List}
use lib.ListN.{length, get_or}
use lib.Ieee.{Float, nan, le}
use Rattle.loops.specs.Run.{check, going, ended}
use Rattle.loops.specs.Every.{every}
use Rattle.loops.specs.Tabulate.{tabulate}
use Rattle.loops.proofs.Every.{every_same}
use Rattle.loops.proofs.Tabulate.{get_d_tabulate}
use Rattle.binary64.specs.Order.{absolute}
use Rattle.kapitsa_joint.specs.Row.{scalars_of, words_of, row_of}
use Rattle.kapitsa_joint.specs.Table.{table_of}
use Rattle.kapitsa_joint.specs.declared.kind.Kind.{Kind}
use Rattle.kapitsa_joint.specs.Tolerance.{dimension_of}
use Rattle.kapitsa_joint.specs.Maxima.{maxima_by}
use Rattle.kapitsa_joint.specs.declared.maxima.Maxima.{Maxima}
use Rattle.kapitsa_joint.proofs.Largest.{maxima_same}
use Rattle.rules.specs.Rules.{Rules}
use Rattle.rules.specs.Rows.{rule_in}
use Rattle.mass_operator.specs.System.{system_of}
use Rattle.mass_operator.specs.Operator.{value_at}
use Rattle.mass_operator.specs.Flat.{coefficients, product_of}
use Rattle.check_range.specs.Closing.{Closing, closing_for, error_in}
use Rattle.check_measure.specs.Verdict.{sizes_of, value_of, size_of, reach, within, closes, largest_reaches}
use Rattle.check_measure.specs.Rows.{reach_in, within_in}
use Rattle.check_work.specs.Rows.{Measured}
use Rattle.check_answer.specs.Answer.{verdict_of, check_of, named_by, CheckAnswer}
use Rattle.closing_check.specs.Checked.{verdict_in, Reached}
use Rattle.check_answer.specs.declared.Verdict.TheVariants.{Closed, Open}

module _ (kind : Kind) (s : Rules) (given : List Float) (placed : Bool) {rows bodies : ℕ} {numbers : List Float} {words : List ℕ} {masses multipliers values sizes : List Float}
    (m : Measured bodies numbers words masses multipliers values sizes) (e : length multipliers ≡ rows) where
  abbrev c : Closing
  c = closing_for kind (table_of rows bodies numbers words masses) (coefficients multipliers) s (coefficients given) placed

  values_is : values ≡ tabulate (value_of c) rows
  unfolding product_of value_of
  values_is = m.values ∙ ap (λ (k : ℕ). tabulate (value_at (system_of (table_of k bodies numbers words masses)) (coefficients multipliers)) k) e

  sizes_is : sizes ≡ tabulate (size_of c) rows
  unfolding product_of size_of
  sizes_is = m.sizes ∙ ap (λ (k : ℕ). tabulate (value_at (sizes_of (system_of (table_of k bodies numbers words masses))) (λ i. absolute (coefficients multipliers i))) k) e

  module _ {reaches : List Float} (made : reaches ≡ tabulate (reach_in (error_in kind numbers given) values sizes rows) rows) where
    reach_is : (i : ℕ) → i < rows → get_or reaches i nan ≡ reach c i
    unfolding reach_in reach row_of scalars_of
    reach_is i h = rw (made, get_d_tabulate (reach_in (error_in kind numbers given) values sizes rows) rows i nan h, values_is, sizes_is, get_d_tabulate (value_of c) rows i nan h, get_d_tabulate (size_of c) rows i nan h)

    pub reached_is : {answer : CheckAnswer} → Reached answer c reaches
    reached_is = record { reached = λ _. reach_is }

    row_is : (i : ℕ) → i < rows → within_in words reaches s i ≡ within c i
    unfolding within_in row_of words_of
    row_is i h = ap (λ (r : Float). le r (c.tolerance i)) (reach_is i h)

    closes_is : every (within_in words reaches s) rows ≡ closes c
    unfolding closes
    closes_is = every_same (within_in words reaches s) (within c) rows row_is

    largest_is : maxima_by (λ i. dimension_of (get_or words (8 * i + 1) 0)) (λ i. get_or reaches i nan) rows ≡ largest_reaches c
    unfolding largest_reaches row_of words_of
    largest_is = maxima_same _ _ _ _ rows (λ i h. refl) reach_is

    pub verdict_is : {answer : CheckAnswer} → answer ≡ verdict_in words reaches s rows → check_of true c ≡ verdict_of c → answer ≡ check_of true c
    unfolding verdict_of verdict_in
    verdict_is a passed =
        let gap = maxima_by (λ i. dimension_of (get_or words (8 * i + 1) 0)) (λ i. get_or reaches i nan) rows in
        a
        ∙ ap (λ (b : Bool). check b (going (Closed gap)) (going (Open gap))) closes_is
        ∙ ap (λ (m : Maxima). check (closes c) (going (Closed m)) (going (Open m))) largest_is
        ∙ sym passed

-- a refusal leaves no reaches, and names no rules
module _ {answer : CheckAnswer} {n : ℕ} (e : answer ≡ ended n) (c : Closing) where
  pub reached_none : (values : List Float) → Reached answer c values
  reached_none values = record { reached = λ v. absurd (v n e) }

  pub named_none : (before : List ℕ) → before ≡ named_by answer c before
  named_none before = rw e

-- ---- `verdict`
module _ (words : List ℕ) (reaches : List Float) (s : Rules) (rows : ℕ) {r : Bool} {gap : Maxima} (p : r ≡ every (within_in words reaches s) rows)
    (g : gap ≡ maxima_by (λ i. dimension_of (get_or words (8 * i + 1) 0)) (λ i. get_or reaches i nan) rows) where
  pub all_within : r ≡ true → going (Closed gap) ≡ verdict_in words reaches s rows
  unfolding verdict_in check
  all_within h = rw (← p, h, ← g)

  pub one_misses : r ≡ false → going (Open gap) ≡ verdict_in words reaches s rows
  unfolding verdict_in check
  one_misses h = rw (← p, h, ← g)

-- ---- the rule of each row
module _ (s : Rules) (rows bodies : ℕ) (numbers : List Float) (words : List ℕ) (masses : List Float) (listed : ℕ → Float) (kind : Kind) (residual : ℕ → Float) (placed : Bool) where
  abbrev judged : Closing
  judged = closing_for kind (table_of rows bodies numbers words masses) listed s residual placed

  rules_are : tabulate (rule_in s words) rows ≡ tabulate judged.rule rows
  unfolding row_of words_of
  rules_are = refl

  pub named_is : (before : List ℕ) {after : List ℕ} → length before ≡ rows → after ≡ tabulate (rule_in s words) (length before) → after ≡ tabulate judged.rule rows
  named_is before e n = n ∙ ap (λ (k : ℕ). tabulate (rule_in s words) k) e ∙ rules_are
