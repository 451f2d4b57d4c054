-- `binary64::settle` meets its contract. Assumes nothing.
use borrow.Author.Rules.{rules}
use Rattle.binary64.proofs.square_root.Two.{settle_two_code, share_takes, digit_adds}
use Rattle.binary64.proofs.square_root.settle.Goals as goal

ruleset known = (settle_two_code, share_takes, digit_adds, rules)

pub overflow_add-rest : goal.overflow_add-rest
overflow_add-rest c = search known

pub overflow_add-result : goal.overflow_add-result
overflow_add-result c = search known

pub overflow_sub-result : goal.overflow_sub-result
overflow_sub-result c = search known

pub returns : goal.returns
returns c = search known
