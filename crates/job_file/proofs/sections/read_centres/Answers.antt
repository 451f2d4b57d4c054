-- `job_file::sections::read_centres` meets its contract: what stands below k is read. Assumes nothing.
use native.Mathlib.Omega.{arith}
use Rattle.job_file.specs.File.{section_centres}
use Rattle.loops.proofs.Fill.{fills}
use Rattle.job_file.proofs.Counted.{filled_count}
use Rattle.job_file.proofs.Masses.{mass_ends}
use Rattle.job_file.proofs.sections.read_centres.Goals as goal

ruleset known = (filled_count, fills)

pub centre_number-requires : goal.centre_number-requires
unfolding section_centres
centre_number-requires c =
    (omega arith, mass_ends _ _ _ _ (omega arith) c.requires.0)

pub returns : goal.returns
unfolding section_centres
returns c = search known
