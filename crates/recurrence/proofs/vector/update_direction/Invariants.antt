-- `recurrence::vector::update_direction` meets its contract: the first i numbers are changed and tested, the others those at entry. Assumes nothing.
use Rattle.recurrence.proofs.Sums.{becomes}
use Rattle.recurrence.proofs.Tested.{Tested}
use Rattle.recurrence.proofs.vector.update_direction.Given as goal

abbrev pub invariant-loop-i : goal.invariant-loop-i
invariant-loop-i l =
    Tested (becomes l.preconditioned l.scale) l.initial.direction l.i l.direction l.all
