-- `position_delivery::impulses::deliver_impulses` meets its contract: the impulses of the bodies below b are in order. Assumes nothing.
use Rattle.kapitsa_joint.specs.Impulse.{paired_of}
use Rattle.position_delivery.proofs.InOrder.{Puts}
use Rattle.position_delivery.proofs.impulses.deliver_impulses.Given as goal

abbrev pub invariant-loop-b : goal.invariant-loop-b
invariant-loop-b l =
    Puts (paired_of l.body_impulses) l.bodies l.b l.impulses
