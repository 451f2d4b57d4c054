-- `job_file::sections::read_masses` meets its contract: what stands below k is read. Assumes nothing.
use native.Mathlib.Omega.{arith}
use Rattle.job_file.specs.File.{section_masses}
use Rattle.loops.proofs.Fill.{fills}
use Rattle.job_file.proofs.Counted.{filled_count}
use Rattle.job_file.proofs.Masses.{mass_inside}
use Rattle.job_file.proofs.sections.read_masses.Goals as goal

ruleset known = (filled_count, fills)

pub mass_number-requires : goal.mass_number-requires
unfolding section_masses
mass_number-requires c =
    mass_inside _ _ _ _ (omega arith) c.requires.0 (omega arith)

pub returns : goal.returns
unfolding section_masses
returns c = search known
