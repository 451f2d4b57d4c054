-- `job_converter::bits::read_number_bits` meets its contract: what stands below k is read. Assumes nothing.
use Prim.Native.Nat.{◌/◌, ◌%◌}
use lib.ListN.{length}
use Rattle.loops.proofs.Fill.{Fills}
use Rattle.job_file.specs.File.{row_bits}
use Rattle.job_converter.proofs.bits.read_number_bits.Given as goal

abbrev pub invariant-loop-k : goal.invariant-loop-k
invariant-loop-k l =
    Fills 0 (λ k. row_bits l.file l.offset (k / 27) (k % 27)) (length l.initial.numbers) l.k l.numbers
