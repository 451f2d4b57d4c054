-- `binary64::abs` meets its contract. Assumes nothing.
use borrow.Author.Rules.{rules}
use Rattle.binary64.proofs.order.Absolute.{above_zero, from_zero}
use Rattle.binary64.proofs.order.abs.Goals as goal

ruleset known = (above_zero, from_zero, rules)

pub returns-then-x : goal.returns-then-x
returns-then-x c =
    search known

pub returns-else-x : goal.returns-else-x
returns-else-x c =
    search known
