-- `solve_replay::compare::same_answers` meets its contract. Assumes nothing.
use Prim.Native.Nat.{◌-◌}
use lib.ListN.{length}
use Rattle.loops.proofs.Every.{Holds}
use Rattle.solve_replay.specs.Compare.{same_answer}
use Rattle.solve_replay.proofs.compare.same_answers.Given as goal

abbrev pub invariant-loop-i : goal.invariant-loop-i
invariant-loop-i l =
    Holds (same_answer l.place l.solution l.numbers l.words) (length l.solution) l.i

abbrev pub decreases-loop-i : goal.decreases-loop-i
decreases-loop-i l = length l.solution - l.i
