-- `closing_recorded::replay::well_formed` meets its contract. Assumes nothing.
use Rattle.closing_recorded.proofs.Forming.{forming}
use Rattle.closing_recorded.proofs.replay.well_formed.Goals as goal

pub returns-then-case-lt64 : goal.returns-then-case-lt64
returns-then-case-lt64 c =
    search forming

pub word-n-requires : goal.word-n-requires
word-n-requires c =
    search forming

pub word-b-requires : goal.word-b-requires
word-b-requires c =
    search forming

pub returns-then-n-gt513 : goal.returns-then-n-gt513
returns-then-n-gt513 c =
    search forming

pub returns-then-b-gt257 : goal.returns-then-b-gt257
returns-then-b-gt257 c =
    search forming

pub overflow_mul-result : goal.overflow_mul-result
overflow_mul-result c =
    search forming

pub overflow_add-result : goal.overflow_add-result
overflow_add-result c =
    search forming

pub overflow_mul-result-2 : goal.overflow_mul-result-2
overflow_mul-result-2 c =
    search forming

pub overflow_add-result-2 : goal.overflow_add-result-2
overflow_add-result-2 c =
    search forming

pub returns : goal.returns
returns c =
    search forming
