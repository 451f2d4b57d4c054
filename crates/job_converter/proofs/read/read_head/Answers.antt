-- `job_converter::read::read_head` meets its contract. Assumes nothing.
use Rattle.job_converter.proofs.Reading.{head_read}
use Rattle.job_converter.proofs.read.read_head.Goals as goal

pub returns : goal.returns
returns c = head_read c.requires _ c.word.ensures c.word-2.ensures
