-- `position_delivery::delivery::deliverable` meets its contract. Assumes nothing.
use Rattle.loops.proofs.Loop.{loops}
use Rattle.position_delivery.proofs.Deliveries.{judged_overflow, judged_finite}
use Rattle.position_delivery.proofs.delivery.deliverable.Goals as goal

ruleset known = (loops)

pub returns-then-is_err : goal.returns-then-is_err
returns-then-is_err c =
    judged_overflow _ _ _ _ _ _ _ c.global_velocity_impulse.ensures _ _ _ _ (search known)

pub returns : goal.returns
returns c =
    judged_finite _ _ _ _ _ _ _ c.global_velocity_impulse.ensures _ _ _ _ _ _ (search known) (search known) c.multipliers_finite.ensures c.moved_finite.ensures
