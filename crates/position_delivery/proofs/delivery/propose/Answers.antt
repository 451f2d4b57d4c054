-- `position_delivery::delivery::propose` meets its contract. Assumes nothing.
use Rattle.position_delivery.proofs.Counted.{counted_step, counted_refused, counted_stands}
use Rattle.position_delivery.proofs.delivery.propose.Goals as goal

pub returns-in_err-met-clause-centres_value : goal.returns-in_err-met-clause-centres_value
returns-in_err-met-clause-centres_value c = counted_refused c.args.limit _ _ _ _ _ _ _ _ _ _ _ c.in_err-met.was c.from_residual.ensures.1

pub propose_step-requires-clause-stands : goal.propose_step-requires-clause-stands
propose_step-requires-clause-stands c = counted_stands _ _ c.requires.stands_after c.in_ok-met.was

pub returns-clause-centres_value : goal.returns-clause-centres_value
returns-clause-centres_value c = counted_step c.args.limit _ _ _ _ _ _ _ _ _ _ _ c.in_ok-met.was c.is_some.ensures c.unwrap_or.ensures c.propose_step.ensures
