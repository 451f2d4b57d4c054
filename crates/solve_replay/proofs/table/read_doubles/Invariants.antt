-- `solve_replay::table::read_doubles` meets its contract. Assumes nothing.
use Prim.Native.Nat.{◌-◌}
use lib.Ieee.{nan, binary64, of_bits}
use lib.ListN.{get_or, length}
use Rattle.loops.proofs.Fill.{Fills}
use Rattle.solve_replay.proofs.table.read_doubles.Given as goal

abbrev pub invariant-loop-i : goal.invariant-loop-i
invariant-loop-i l =
    Fills nan (λ k. of_bits binary64 (get_or l.words k 0)) (length l.initial.out) l.i l.out

abbrev pub decreases-loop-i : goal.decreases-loop-i
decreases-loop-i l = length l.initial.out - l.i
