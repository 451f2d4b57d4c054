-- `binary64::settle_last` meets its contract. Assumes nothing.
use borrow.Author.Rules.{rules}
use Rattle.binary64.proofs.square_root.Digits.{settle_bit, bit_adds, bit_times, bit_within}
use Rattle.binary64.proofs.square_root.settle_last.Goals as goal

ruleset known = (settle_bit, bit_adds, bit_times, bit_within, rules)

pub overflow_add-rest : goal.overflow_add-rest
overflow_add-rest c = search known

pub overflow_add-trial : goal.overflow_add-trial
overflow_add-trial c = search known

pub overflow_cast-bit : goal.overflow_cast-bit
overflow_cast-bit c = search known

pub overflow_add-result : goal.overflow_add-result
overflow_add-result c = search known

pub overflow_sub-result : goal.overflow_sub-result
overflow_sub-result c = search known

pub returns : goal.returns
returns c = search known
