-- What is promised of a closing check: its answer, what that means, the rule of each row, and the work memory afterwards. `fits` is whether refusal 3 passes.
use Rattle.std.specs.Prelude.{ℕ, ◌+◌, ◌*◌, ◌<◌, ◌≡◌, Bool, List, get_or, Float}
use Rattle.std.specs.Float.{nan}
use Rattle.loops.specs.Run.{check, going, ended}
use Rattle.loops.specs.Every.{every}
use Rattle.kapitsa_joint.specs.Tolerance.{dimension_of}
use Rattle.kapitsa_joint.specs.Maxima.{maxima_by}
use Rattle.rules.specs.Rules.{Rules, Ruled}
use Rattle.check_measure.specs.Rows.{within_in}
use Rattle.check_measure.specs.Verdict.{reach}
use Rattle.check_range.specs.Closing.{Closing}
use Rattle.check_answer.specs.Answer.{check_of, named_by, CheckMeaning, CheckAnswer}
use Rattle.check_work.specs.Work.{CheckMemory, After}
use Rattle.check_answer.specs.declared.Verdict.TheVariants.{Closed, Open}

-- the verdict of lent words and reaches
unfoldable pub verdict_in : List ℕ → List Float → Rules → ℕ → CheckAnswer
verdict_in words reaches rules rows =
    let gap = maxima_by (λ i. dimension_of (get_or words (8 * i + 1) 0)) (λ i. get_or reaches i nan) rows in
    check (every (within_in words reaches rules) rows) (going (Closed gap)) (going (Open gap))

-- what the check leaves in `values` where it gives a verdict: each row's rounded |r| + E. The list of document 02, m, is made from it before the memory is cleared.
pub record Reached (answer : CheckAnswer) (c : Closing) (values : List Float) : Type 0 where
  pub reached : ((n : ℕ) → answer ≡ ended n → ⊥) → (i : ℕ) → i < c.table.rows → get_or values i nan ≡ reach c i

pub record Checked (fits : Bool) (s : Rules) (c : Closing) (answer : CheckAnswer) (numbers numbersAfter : List ℕ) (before after : CheckMemory) : Type 0 where
  pub answered : answer ≡ check_of fits c
  pub means : CheckMeaning fits c answer
  pub named : numbersAfter ≡ named_by answer c numbers  -- the number of each row's rule
  pub ruled : ((n : ℕ) → answer ≡ ended n → ⊥) → Ruled s c.table  -- which is the one that it falls under
  pub memory : After fits before after
