-- `recurrence::vector::update_direction` meets its contract: the first i numbers are changed and tested, the others those at entry. Assumes nothing.
use Rattle.loops.proofs.Loop.{loops}
use Rattle.recurrence.proofs.Sums.{turned}
use Rattle.recurrence.proofs.Tested.{tested_none, tested_more, tested_end}
use Rattle.recurrence.proofs.vector.update_direction.Goals as goal

ruleset known = (turned, tested_none, tested_more, tested_end, loops)

pub loop-i-init : goal.loop-i-init
loop-i-init c =
    search known

pub loop-i-preserved : goal.loop-i-preserved
loop-i-preserved c =
    search known

pub returns : goal.returns
returns c =
    search known
