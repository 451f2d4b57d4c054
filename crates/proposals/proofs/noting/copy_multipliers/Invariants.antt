-- `proposals::noting::copy_multipliers` meets its contract: the first i multipliers are written. Assumes nothing.
use lib.Ieee.{nan}
use lib.ListN.{length}
use Rattle.loops.proofs.Fill.{Fills}
use Rattle.position.specs.Multipliers.{accumulated_in}
use Rattle.proposals.proofs.noting.copy_multipliers.Given as goal

abbrev pub invariant-loop-i : goal.invariant-loop-i
invariant-loop-i l =
    Fills nan (accumulated_in 24 l.numbers) (length l.initial.started) l.i l.started
