-- `job_converter::bits::read_mass_bits` meets its contract: what stands below k is read. Assumes nothing.
use native.Mathlib.Omega.{arith}
use Rattle.loops.proofs.Fill.{fills}
use Rattle.job_file.proofs.Counted.{filled_count}
use Rattle.job_file.proofs.Masses.{mass_inside}
use Rattle.job_writer.specs.JobBits.{section_mass_bits}
use Rattle.job_converter.proofs.bits.read_mass_bits.Goals as goal

ruleset known = (filled_count, fills)

pub mass_bits-requires : goal.mass_bits-requires
unfolding section_mass_bits
mass_bits-requires c =
    mass_inside _ _ _ _ (omega arith) c.requires.0 (omega arith)

pub returns : goal.returns
unfolding section_mass_bits
returns c = search known
