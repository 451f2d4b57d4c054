-- `position::multiplier::add_multipliers` meets its contract: the rows below i have gained. Assumes nothing.
use lib.ListN.{length}
use Rattle.position.proofs.Gains.{Gains}
use Rattle.position.proofs.multiplier.add_multipliers.Given as goal

abbrev pub invariant-loop-i : goal.invariant-loop-i
invariant-loop-i l =
    Gains l.place l.initial.numbers l.solution (length l.solution) l.i l.numbers
