-- What is told of each row's number, from the check's answer and the reaches that it leaves. Assumes nothing.
use Prim.Native.Nat.{ℕ, ◌<◌, ◌≤◌}
use mathlib.Core.Path.{◌≡◌, refl, sym, ap, ◌∙◌}
use mathlib.Core.Bool.{Bool, true}
use mathlib.Core.List.{List}
use native.Mathlib.Omega.{arith}
use lib.ListN.{length, get_or}
use lib.Ieee.{Float, nan}
use Rattle.loops.specs.Every.{every}
use Rattle.loops.specs.Tabulate.{tabulate}
use Rattle.loops.proofs.Every.{every_iff}
use Rattle.loops.proofs.Tabulate.{get_d_tabulate, tabulated}
use Rattle.kapitsa_joint.specs.Maxima.{maxima_by}
use Rattle.kapitsa_joint.proofs.Largest.{maxima_same}
use Rattle.check_range.specs.Closing.{Closing}
use Rattle.check_measure.specs.Verdict.{row_dimension, reach, within, closes, largest_reaches}
use Rattle.check_answer.specs.Answer.{number_of, gap_of, verdict_of, check_of, CheckAnswer}
use Rattle.check_answer.proofs.Meaning.{Held, passes_of, verdict_of_lem, closed_closes, closes_closed, verdict_gap, measured_of_lem}
use Rattle.closing_check.specs.Checked.{Reached}
use Rattle.closing_gaps.specs.Gaps.{gaps_by, kept_by, GapsMeaning, GapsTold}
use Rattle.loops.specs.Run.{going, ended}

-- ---- a verdict and the numbers of its rows
module _ {fits : Bool} {c : Closing} {answer : CheckAnswer} (e : answer ≡ check_of fits c) (held : Held c) (few : fits ≡ true → c.table.rows ≤ 512) (v : (n : ℕ) → answer ≡ ended n → ⊥) {gaps : List Float}
    (made : gaps ≡ tabulate (reach c) c.table.rows) where
  verdict : (n : ℕ) → check_of fits c ≡ ended n → ⊥
  verdict n h = v n (e ∙ h)

  answer_is : answer ≡ verdict_of c
  answer_is = e ∙ verdict_of_lem fits c (passes_of fits c verdict)

  number_is : (i : ℕ) → i < c.table.rows → get_or gaps i nan ≡ reach c i
  number_is i h = rw made (get_d_tabulate (reach c) c.table.rows i nan h)

  closes_every : closes c ≡ every (within c) c.table.rows
  unfolding closes
  closes_every = refl

  largest_is : largest_reaches c ≡ maxima_by (row_dimension c.table) (λ i. get_or gaps i nan) c.table.rows
  unfolding largest_reaches
  largest_is = maxima_same (row_dimension c.table) (row_dimension c.table) (reach c) (λ i. get_or gaps i nan) c.table.rows (λ i h. refl) (λ i h. sym (number_is i h))

  gaps_mean : GapsMeaning c answer gaps
  gaps_mean = record {
    closed = (
      λ h i l. rw (number_is i l) ((every_iff (within c) c.table.rows).0 (sym closes_every ∙ closed_closes c (ap number_of (sym answer_is) ∙ h)) i l),
      λ h. ap number_of answer_is ∙ closes_closed c (closes_every ∙ (every_iff (within c) c.table.rows).1 (λ i l. rw (number_is i l) at (h i l))),
    );
    widest = ap gap_of answer_is ∙ verdict_gap c ∙ largest_is;
    bounded = λ i l. rw (number_is i l) (measured_of_lem fits c held few verdict i l);
  }

-- ---- of the check that left the reaches
module _ (c : Closing) {values : List Float} (long : length values ≡ c.table.rows) where
  reaches_are : {answer : CheckAnswer} → Reached answer c values → ((n : ℕ) → answer ≡ ended n → ⊥) → values ≡ tabulate (reach c) c.table.rows
  reaches_are r v = tabulated nan (reach c) c.table.rows values long (r.reached v)

  by : (gaps : List Float) (answer : CheckAnswer) → Reached answer c values → kept_by answer values gaps ≡ gaps_by answer c gaps
  by gaps (going verdict) r = reaches_are r (λ n h. let z : ◌≡◌ {A = ℕ} 0 1 = cc in omega arith)
  by gaps (ended n) r = refl

made_by : (c : Closing) (gaps : List Float) (answer : CheckAnswer) → ((n : ℕ) → answer ≡ ended n → ⊥) → gaps_by answer c gaps ≡ tabulate (reach c) c.table.rows
made_by c gaps (going verdict) v = refl
made_by c gaps (ended n) v = absurd (v n refl)

pub told_on : (c : Closing) (gaps : List Float) {values : List Float} → length values ≡ c.table.rows → {fits : Bool} {answer : CheckAnswer} {after : List Float} → answer ≡ check_of fits c → Held c → (fits ≡ true → c.table.rows ≤ 512) → Reached answer c values → after ≡ kept_by answer values gaps → GapsTold c answer gaps after
told_on c gaps long {answer = answer} e held few r k =
    let given = k ∙ by c long gaps answer r in
    record { given = given; means = λ v. gaps_mean e held few v (given ∙ made_by c gaps answer v) }

pub told_3 : (c : Closing) (n : ℕ) (gaps : List Float) → GapsTold c (ended n) gaps gaps
told_3 c n gaps = record { given = refl; means = λ v. absurd (v n refl) }
