-- `little_endian::read_doubles` meets its contract: the doubles below i are read. Assumes nothing.
use Prim.Native.Nat.{◌*◌, ◌+◌}
use Rattle.little_endian.specs.Words.{double_at}
use Rattle.loops.proofs.Fill.{Fills}
use lib.Ieee.{nan}
use lib.ListN.{length}
use Rattle.little_endian.proofs.read_doubles.Given as goal

abbrev pub invariant-loop-i : goal.invariant-loop-i
invariant-loop-i l = Fills nan (λ k. double_at l.bytes (l.at + 8 * k)) (length l.initial.out) l.i l.out
