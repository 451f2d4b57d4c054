-- `solve_replay::table::read_words` meets its contract. Assumes nothing.
use Prim.Native.Nat.{◌+◌, ◌*◌, ◌-◌, ◌/◌, ◌%◌}
use lib.ListN.{get_or, length}
use Rattle.loops.proofs.Fill.{Fills}
use Rattle.solve_replay.proofs.table.read_words.Given as goal

abbrev pub invariant-loop-i : goal.invariant-loop-i
invariant-loop-i l =
    Fills 0 (λ k. get_or l.words (35 * (k / 8) + 27 + k % 8) 0 % 4294967296) (length l.initial.out) l.i l.out

abbrev pub decreases-loop-i : goal.decreases-loop-i
decreases-loop-i l = length l.initial.out - l.i
