-- `job_converter::word::layout_named` meets its contract. Assumes nothing.
use Rattle.job_converter.proofs.Naming.{named_old, named_new, named_none}
use Rattle.job_converter.proofs.word.layout_named.Goals as goal

pub returns-then-is_word : goal.returns-then-is_word
returns-then-is_word c =
    named_old _ c.is_word.ensures c.if-is_word.true

pub returns-then-is_word-2 : goal.returns-then-is_word-2
returns-then-is_word-2 c =
    named_new _ c.is_word.ensures c.if-is_word.false c.is_word-2.ensures c.if-is_word-2.true

pub returns : goal.returns
returns c =
    named_none _ c.is_word.ensures c.if-is_word.false c.is_word-2.ensures c.if-is_word-2.false
