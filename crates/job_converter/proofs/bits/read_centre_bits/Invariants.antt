-- `job_converter::bits::read_centre_bits` meets its contract: what stands below k is read. Assumes nothing.
use Prim.Native.Nat.{◌/◌, ◌%◌}
use lib.ListN.{length}
use Rattle.loops.proofs.Fill.{Fills}
use Rattle.job_file.specs.File.{centre_bits}
use Rattle.job_converter.proofs.bits.read_centre_bits.Given as goal

abbrev pub invariant-loop-k : goal.invariant-loop-k
invariant-loop-k l =
    Fills 0 (λ k. centre_bits l.file l.offset l.spare (k / 3) (k % 3)) (length l.initial.centres) l.k l.centres
