-- `solve_replay::compare::unwritten` meets its contract. Assumes nothing.
use Prim.Native.Nat.{◌-◌}
use lib.Ieee.{nan}
use lib.ListN.{get_or, length}
use Rattle.loops.proofs.Every.{Holds}
use Rattle.solve_replay.specs.Compare.{same_double}
use Rattle.solve_replay.proofs.compare.unwritten.Given as goal

abbrev pub invariant-loop-i : goal.invariant-loop-i
invariant-loop-i l =
    Holds (λ k. same_double (get_or l.numbers k nan) 4602678819172646912) (length l.numbers) l.i

abbrev pub decreases-loop-i : goal.decreases-loop-i
decreases-loop-i l = length l.numbers - l.i
