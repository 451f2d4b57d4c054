-- `job_converter::bits::read_words` meets its contract: what stands below k is read. Assumes nothing.
use Rattle.loops.proofs.Fill.{fills}
use Rattle.job_file.proofs.Counted.{filled_count}
use Rattle.job_file.specs.File.{section_words}
use Rattle.job_converter.proofs.bits.read_words.Goals as goal

ruleset known = (filled_count, fills)

pub returns : goal.returns
unfolding section_words
returns c = search known
