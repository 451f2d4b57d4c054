-- `position_delivery::delivery::gain_after` meets its contract. Assumes nothing.
use Rattle.loops.proofs.Loop.{loops}
use Rattle.position_delivery.proofs.Counted.{gains_none, gains_some}
use Rattle.position_delivery.proofs.delivery.gain_after.Goals as goal

ruleset known = (gains_none, gains_some, loops)

pub returns-then-count-eq0 : goal.returns-then-count-eq0
returns-then-count-eq0 c =
    search known

pub returns : goal.returns
returns c =
    search known
