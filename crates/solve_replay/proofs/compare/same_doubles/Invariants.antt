-- `solve_replay::compare::same_doubles` meets its contract. Assumes nothing.
use Prim.Native.Nat.{◌-◌}
use lib.Ieee.{nan}
use lib.ListN.{get_or, length}
use Rattle.loops.proofs.Every.{Holds}
use Rattle.solve_replay.specs.Compare.{same_double}
use Rattle.solve_replay.proofs.compare.same_doubles.Given as goal

abbrev pub invariant-loop-i : goal.invariant-loop-i
invariant-loop-i l =
    Holds (λ k. same_double (get_or l.numbers k nan) (get_or l.words k 0)) (length l.numbers) l.i

abbrev pub decreases-loop-i : goal.decreases-loop-i
decreases-loop-i l = length l.numbers - l.i
