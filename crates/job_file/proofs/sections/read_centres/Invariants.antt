-- `job_file::sections::read_centres` meets its contract: what stands below k is read. Assumes nothing.
use Prim.Native.Nat.{◌/◌, ◌%◌}
use lib.Ieee.{nan}
use lib.ListN.{length}
use Rattle.loops.proofs.Fill.{Fills}
use Rattle.job_file.specs.File.{centre_number}
use Rattle.job_file.proofs.sections.read_centres.Given as goal

abbrev pub invariant-loop-k : goal.invariant-loop-k
invariant-loop-k l =
    Fills nan (λ k. centre_number l.file l.offset l.spare (k / 3) (k % 3)) (length l.initial.centres) l.k l.centres
