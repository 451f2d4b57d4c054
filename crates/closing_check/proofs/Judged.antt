-- The judgements after refusal 3: a check that they refuse, and what one that passed has. Assumes nothing.
use Prim.Native.Nat.{ℕ}
use mathlib.Core.Path.{◌≡◌, refl, ◌∙◌}
use mathlib.Core.Bool.{Bool, true}
use mathlib.Core.List.{List}
use lib.Ieee.{Float}
use Rattle.loops.specs.Run.{going, ended, on}
use Rattle.loops.specs.Judge.{judge, AllPass}
use Rattle.loops.proofs.Every.{every_iff}
use Rattle.loops.proofs.Judge.{judge_going, judge_pass}
use Rattle.kapitsa_joint.specs.Row.{row_of}
use Rattle.kapitsa_joint.specs.Table.{table_of}
use Rattle.kapitsa_joint.specs.declared.kind.Kind.{Kind}
use Rattle.joint_refusals.specs.Refusals.{passes7, is_valid_of}
use Rattle.rules.specs.Rules.{Rules}
use Rattle.rules.specs.Rows.{rows_ruled}
use Rattle.rules.proofs.Lent.{lent_28}
use Rattle.check_range.specs.Closing.{Closing, closing_for}
use Rattle.check_refusals.specs.Judged.{table_tests, judgements}
use Rattle.check_refusals.proofs.Judgement.{passed_tolerances, passed_7}
use Rattle.check_answer.specs.Answer.{CheckAnswer, verdict_of, check_of}
use Rattle.joint_refusals.proofs.Valid.{valid_bodies}
use Rattle.check_answer.proofs.Meaning.{verdict_of_lem}
use Rattle.check_work.specs.Rows.{Valid}

module _ (c : Closing) where
  pub refused_judged : {answer : CheckAnswer} {n : ℕ} → answer ≡ ended n → judge (table_tests c) ≡ ended n → answer ≡ check_of true c
  unfolding check_of on
  refused_judged {n = n} a e = let r : judge (judgements true c) ≡ ended n = judge_pass 3 true (table_tests c) refl refl e in rw (r, a)

  all_judged : judge (table_tests c) ≡ going tt → AllPass (table_tests c)
  all_judged e = (judge_going (table_tests c)).0 e

  pub passed_judged : judge (table_tests c) ≡ going tt → check_of true c ≡ verdict_of c
  unfolding AllPass
  passed_judged e = verdict_of_lem true c (refl, all_judged e)

-- the rows' bodies
valid_of : (rows bodies : ℕ) (numbers : List Float) (words : List ℕ) (masses : List Float) → passes7 (table_of rows bodies numbers words masses) ≡ true → Valid rows bodies numbers words
unfolding passes7
valid_of rows bodies numbers words masses h = record {
  a = λ i l. (valid_bodies bodies (row_of numbers words i) ((every_iff (λ i. is_valid_of bodies (row_of numbers words i)) rows).0 h i l)).a;
  b = λ i l. (valid_bodies bodies (row_of numbers words i) ((every_iff (λ i. is_valid_of bodies (row_of numbers words i)) rows).0 h i l)).b;
}

-- what a table that passed them has
module _ (kind : Kind) (rows bodies : ℕ) (numbers : List Float) (words : List ℕ) (masses : List Float) (listed : ℕ → Float) (s : Rules) (residual : ℕ → Float) (placed : Bool) where
  abbrev c : Closing
  c = closing_for kind (table_of rows bodies numbers words masses) listed s residual placed

  module _ (e : judge (table_tests c) ≡ going tt) where
    pub valid_judged_lem : Valid rows bodies numbers words
    valid_judged_lem = valid_of rows bodies numbers words masses (passed_7 c (all_judged c e))

    pub ruled_judged : rows_ruled s words rows ≡ true
    unfolding AllPass
    ruled_judged = lent_28 s rows bodies numbers words masses ∙ (passed_tolerances c (all_judged c e)).1.0
