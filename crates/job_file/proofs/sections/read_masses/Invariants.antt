-- `job_file::sections::read_masses` meets its contract: what stands below k is read. Assumes nothing.
use Prim.Native.Nat.{◌/◌, ◌%◌}
use lib.Ieee.{nan}
use lib.ListN.{length}
use Rattle.loops.proofs.Fill.{Fills}
use Rattle.job_file.specs.File.{mass_number}
use Rattle.job_file.proofs.sections.read_masses.Given as goal

abbrev pub invariant-loop-k : goal.invariant-loop-k
invariant-loop-k l =
    Fills nan (λ k. mass_number l.file l.offset l.spare (k / 10) (k % 10)) (length l.initial.masses) l.k l.masses
