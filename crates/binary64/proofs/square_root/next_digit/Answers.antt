-- `binary64::next_digit` meets its contract. Assumes nothing.
use borrow.Author.Rules.{rules}
use Rattle.binary64.proofs.square_root.Two.{digit_sum, bytes_two, bytes_three}
use Rattle.binary64.proofs.square_root.next_digit.Goals as goal

ruleset known = (digit_sum, bytes_two, bytes_three, rules)

pub overflow_mul-result : goal.overflow_mul-result
overflow_mul-result c =
    search known

pub overflow_cast-result : goal.overflow_cast-result
overflow_cast-result c =
    search known

pub overflow_mul-result-2 : goal.overflow_mul-result-2
overflow_mul-result-2 c =
    search known

pub overflow_add-result : goal.overflow_add-result
overflow_add-result c =
    search known

pub overflow_cast-result-2 : goal.overflow_cast-result-2
overflow_cast-result-2 c =
    search known

pub overflow_add-result-2 : goal.overflow_add-result-2
overflow_add-result-2 c =
    search known

pub overflow_mul-result-3 : goal.overflow_mul-result-3
overflow_mul-result-3 c =
    search known

pub overflow_add-result-3 : goal.overflow_add-result-3
overflow_add-result-3 c =
    search known

pub overflow_cast-result-3 : goal.overflow_cast-result-3
overflow_cast-result-3 c =
    search known

pub overflow_add-result-4 : goal.overflow_add-result-4
overflow_add-result-4 c =
    search known

pub returns : goal.returns
returns c =
    search known
