-- `solve_replay::compare::kept_numbers` meets its contract. Assumes nothing.
use Prim.Native.Nat.{◌-◌}
use lib.ListN.{length}
use Rattle.loops.proofs.Every.{Holds}
use Rattle.solve_replay.specs.Compare.{kept_number}
use Rattle.solve_replay.proofs.compare.kept_numbers.Given as goal

abbrev pub invariant-loop-i : goal.invariant-loop-i
invariant-loop-i l =
    Holds (kept_number l.place l.accepted l.numbers l.words) (length l.numbers) l.i

abbrev pub decreases-loop-i : goal.decreases-loop-i
decreases-loop-i l = length l.numbers - l.i
