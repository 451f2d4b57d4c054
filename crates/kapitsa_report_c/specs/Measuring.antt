-- What a closing check that gives each row's measured number tells C: all that the check tells and, where there is a verdict, closed or open, the rows' numbers.
use Rattle.std.specs.Prelude.{ℕ, Bool, List, Float}
use Rattle.rules.specs.Rules.{Rules}
use Rattle.check_range.specs.Closing.{Closing}
use Rattle.check_answer.specs.Answer.{check_of}
use Rattle.check_work.specs.Work.{CheckMemory}
use Rattle.closing_gaps.specs.Gaps.{GapsTold}
use Rattle.kapitsa_c.specs.Closing.{VerdictTold, CheckTold}

-- `gaps` is the numbers' memory, which a refusal leaves as it was. `fits` is whether refusal 3 passes.
pub record GapsReported (fits : Bool) (s : Rules) (c : Closing) (verdict : List ℕ) (gap : List Float) (told : VerdictTold) (numbers numbersAfter : List ℕ) (before after : CheckMemory) (gaps gapsAfter : List Float) : Type 0 where
  pub checked : CheckTold fits s c verdict gap told numbers numbersAfter before after
  pub measured : GapsTold c (check_of fits c) gaps gapsAfter
