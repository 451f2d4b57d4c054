-- `job_converter::bits::read_number_bits` meets its contract: what stands below k is read. Assumes nothing.
use Rattle.loops.proofs.Fill.{fills}
use Rattle.job_file.proofs.Counted.{filled_count}
use Rattle.job_writer.specs.JobBits.{section_number_bits}
use Rattle.job_converter.proofs.bits.read_number_bits.Goals as goal

ruleset known = (filled_count, fills)

pub returns : goal.returns
unfolding section_number_bits
returns c = search known
