-- `little_endian::read_halves` meets its contract: the halves below i are read. Assumes nothing.
use Prim.Native.Nat.{◌*◌, ◌+◌}
use Rattle.little_endian.specs.Words.{half_at}
use Rattle.loops.proofs.Fill.{Fills}
use lib.ListN.{length}
use Rattle.little_endian.proofs.read_halves.Given as goal

abbrev pub invariant-loop-i : goal.invariant-loop-i
invariant-loop-i l = Fills 0 (λ k. half_at l.bytes (l.at + 8 * k)) (length l.initial.out) l.i l.out
