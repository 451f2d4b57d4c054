-- `mass_operator::impulse::global_velocity_impulse` meets its contract. Assumes nothing.
use Rattle.mass_operator.proofs.Answers.{summed_is}
use Rattle.mass_operator.proofs.impulse.global_velocity_impulse.Goals as goal

pub returns : goal.returns
returns c = summed_is _ _ _ _ _ c.sum_impulses.ensures c.test_finite.ensures
