-- What a closing check that lists its margins tells C: all that the check tells and, where it closes, the list of document 02, m.
use Rattle.std.specs.Prelude.{ℕ, Bool, List, Float}
use Rattle.rules.specs.Rules.{Rules}
use Rattle.check_range.specs.Closing.{Closing}
use Rattle.check_answer.specs.Answer.{check_of}
use Rattle.check_work.specs.Work.{CheckMemory}
use Rattle.closing_margins.specs.Held.{MarginsTold}
use Rattle.kapitsa_c.specs.Closing.{VerdictTold, CheckTold}

-- `rows` and `margins` are the list's memory. "Where the check refuses or says open there is no list, and the memory lent for it stays as it was."
pub record MarginsListed (fits : Bool) (s : Rules) (c : Closing) (verdict : List ℕ) (gap : List Float) (told : VerdictTold) (numbers numbersAfter : List ℕ) (before after : CheckMemory) (rows : List ℕ) (margins : List Float) (rowsAfter : List ℕ) (marginsAfter : List Float) : Type 0 where
  pub checked : CheckTold fits s c verdict gap told numbers numbersAfter before after
  pub listed : MarginsTold fits c (check_of fits c) rows margins rowsAfter marginsAfter
