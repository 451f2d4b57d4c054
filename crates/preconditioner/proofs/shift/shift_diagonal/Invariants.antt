-- `preconditioner::shift::shift_diagonal` meets its contract: the first i numbers are scaled, the others those at entry. Assumes nothing.
use lib.Ieee.{nan}
use Rattle.preconditioner.proofs.InPlace.{Changes}
use Rattle.preconditioner.proofs.Shifted.{scaling}
use Rattle.preconditioner.proofs.shift.shift_diagonal.Given as goal

abbrev pub invariant-loop-i : goal.invariant-loop-i
invariant-loop-i l =
    Changes nan (scaling l.scale) l.initial.diagonal l.i l.diagonal
