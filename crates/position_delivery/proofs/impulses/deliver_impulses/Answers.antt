-- `position_delivery::impulses::deliver_impulses` meets its contract: the impulses of the bodies below b are in order. Assumes nothing.
use Rattle.loops.proofs.Loop.{loops}
use Rattle.position_delivery.proofs.InOrder.{puts_none, puts_more, puts_end}
use Rattle.position_delivery.proofs.impulses.deliver_impulses.Goals as goal

ruleset known = (puts_none, puts_more, puts_end, loops)

pub loop-b-preserved : goal.loop-b-preserved
loop-b-preserved c =
    search known

pub returns : goal.returns
returns c =
    search known
