-- `recurrence::vector::scaled_subtract` meets its contract: the first i numbers are changed, the others those at entry. Assumes nothing.
use lib.Ieee.{nan}
use Rattle.preconditioner.proofs.InPlace.{Changes}
use Rattle.recurrence.proofs.Sums.{loses}
use Rattle.recurrence.proofs.vector.scaled_subtract.Given as goal

abbrev pub invariant-loop-i : goal.invariant-loop-i
invariant-loop-i l =
    Changes nan (loses l.scale l.vector) l.initial.out l.i l.out
