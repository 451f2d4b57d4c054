-- `recurrence::vector::scaled_subtract` meets its contract: the first i numbers are changed, the others those at entry. Assumes nothing.
use Rattle.loops.proofs.Loop.{loops}
use Rattle.preconditioner.proofs.InPlace.{changes_none, changes_more}
use Rattle.recurrence.proofs.Sums.{lost}
use Rattle.recurrence.proofs.vector.scaled_subtract.Goals as goal

ruleset known = (lost, changes_none, changes_more, loops)

pub returns : goal.returns
returns c =
    search known
