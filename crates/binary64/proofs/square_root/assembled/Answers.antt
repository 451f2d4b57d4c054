-- `binary64::assembled` meets its contract. Assumes nothing.
use borrow.Author.Rules.{rules}
use Rattle.binary64.proofs.square_root.Pattern.{joined}
use Rattle.binary64.proofs.square_root.assembled.Goals as goal

ruleset known = (joined, rules)

pub overflow_add-result : goal.overflow_add-result
overflow_add-result c = search known

pub returns : goal.returns
returns c = search known
