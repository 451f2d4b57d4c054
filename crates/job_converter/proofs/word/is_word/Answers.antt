-- `job_converter::word::is_word` meets its contract. Assumes nothing.
use native.Mathlib.Omega.{arith}
use Rattle.job_converter.proofs.Naming.{word_other, word_three}
use Rattle.job_converter.proofs.word.is_word.Goals as goal

pub returns-then-word-ne3 : goal.returns-then-word-ne3
returns-then-word-ne3 c =
    word_other _ _ _ _ (omega arith)

pub returns : goal.returns
returns c =
    word_three _ _ _ _ (omega arith)
