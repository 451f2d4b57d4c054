-- `recurrence::vector::scaled_add` meets its contract: the first i numbers are changed and tested, the others those at entry. Assumes nothing.
use Rattle.recurrence.proofs.Sums.{gains}
use Rattle.recurrence.proofs.Tested.{Tested}
use Rattle.recurrence.proofs.vector.scaled_add.Given as goal

abbrev pub invariant-loop-i : goal.invariant-loop-i
invariant-loop-i l =
    Tested (gains l.scale l.vector) l.initial.out l.i l.out l.all
