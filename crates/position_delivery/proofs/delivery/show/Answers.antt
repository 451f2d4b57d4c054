-- `position_delivery::delivery::show` meets its contract. Assumes nothing.
use native.Mathlib.Omega.{arith}
use Rattle.position_delivery.proofs.Deliveries.{shown_none, shown_all}
use Rattle.position_delivery.proofs.delivery.show.Goals as goal

pub returns-then-not-deliverable : goal.returns-then-not-deliverable
returns-then-not-deliverable c =
    shown_none _ _ _ _ _ _ _ _ _ _ _ _ _ c.deliverable.ensures c.if-not-deliverable.true-raw

pub move_centres-requires : goal.move_centres-requires
move_centres-requires c =
    (omega (arith, c.requires.place_bound), omega (arith, c.requires.pending_in_bounds, c.requires.place_bound, c.body_impulses-1.given), c.requires.place_bound.3, c.requires.place_bound.4)

pub returns : goal.returns
returns c =
    shown_all _ _ _ _ _ _ _ _ _ _ _ _ _ c.deliverable.ensures _ _ _ c.requires.place_bound.1 c.if-not-deliverable.false-raw c.copy.ensures c.deliver_impulses.ensures c.move_centres.ensures
