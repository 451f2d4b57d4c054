-- `binary64::scaled` meets its contract. Assumes nothing.
use borrow.Author.Rules.{rules}
use Rattle.binary64.proofs.square_root.Digits.{even_left, odd_left}
use Rattle.binary64.proofs.square_root.scaled.Goals as goal

ruleset known = (even_left, odd_left, rules)

pub returns-then-over-eq1 : goal.returns-then-over-eq1
returns-then-over-eq1 c = search known

pub returns : goal.returns
returns c = search known
