-- `job_converter::bits::read_centre_bits` meets its contract: what stands below k is read. Assumes nothing.
use native.Mathlib.Omega.{arith}
use Rattle.loops.proofs.Fill.{fills}
use Rattle.job_file.proofs.Counted.{filled_count}
use Rattle.job_file.proofs.Masses.{mass_ends}
use Rattle.job_writer.specs.JobBits.{section_centre_bits}
use Rattle.job_converter.proofs.bits.read_centre_bits.Goals as goal

ruleset known = (filled_count, fills)

pub centre_bits-requires : goal.centre_bits-requires
unfolding section_centre_bits
centre_bits-requires c =
    (omega arith, mass_ends _ _ _ _ (omega arith) c.requires.0)

pub returns : goal.returns
unfolding section_centre_bits
returns c = search known
