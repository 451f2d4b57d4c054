-- `job_converter::bits::read_mass_bits` meets its contract: what stands below k is read. Assumes nothing.
use Prim.Native.Nat.{◌/◌, ◌%◌}
use lib.ListN.{length}
use Rattle.loops.proofs.Fill.{Fills}
use Rattle.job_file.specs.File.{mass_bits}
use Rattle.job_converter.proofs.bits.read_mass_bits.Given as goal

abbrev pub invariant-loop-k : goal.invariant-loop-k
invariant-loop-k l =
    Fills 0 (λ k. mass_bits l.file l.offset l.spare (k / 10) (k % 10)) (length l.initial.masses) l.k l.masses
