-- What a check promises that brings its own work memory. Refusal 3 is then of what a caller lends: the counts, and the lengths of the table, of the list and of the rules.
use Rattle.std.specs.Prelude.{ℕ, ◌≡◌, Bool, List}
use Rattle.rules.specs.Rules.{Rules, Ruled}
use Rattle.check_range.specs.Closing.{Closing}
use Rattle.check_answer.specs.Answer.{check_of, named_by, CheckMeaning, CheckAnswer}
use Rattle.loops.specs.Run.{ended}

pub record AloneHeld (fits : Bool) (s : Rules) (c : Closing) (answer : CheckAnswer) (numbers numbersAfter : List ℕ) : Type 0 where
  pub answered : answer ≡ check_of fits c
  pub means : CheckMeaning fits c answer
  pub named : numbersAfter ≡ named_by answer c numbers
  pub ruled : ((n : ℕ) → answer ≡ ended n → ⊥) → Ruled s c.table
