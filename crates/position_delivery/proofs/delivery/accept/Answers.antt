-- `position_delivery::delivery::accept` meets its contract. Assumes nothing.
use Rattle.position_delivery.proofs.Deliveries.{accepts}
use Rattle.position_delivery.proofs.delivery.accept.Goals as goal

pub returns : goal.returns
returns c =
    accepts _ _ _ _ _ c.residual_maxima-maxima.ensures
