-- `position::multiplier::multipliers_finite` meets its contract. Assumes nothing.
use Rattle.std.proofs.Common.{rules}
use borrow.Author.Tests.{tests}
use Rattle.loops.proofs.Chains.{every_from_all}
use Rattle.position.specs.Multipliers.{gains_finite}
use Rattle.position.proofs.Gains.{gain_tested}
use Rattle.position.proofs.multiplier.multipliers_finite.Goals as goal

pub returns : goal.returns
unfolding gains_finite
returns c = every_from_all _ (cc) c.all.ensures.ran (λ x b h k. search (gain_tested, rules, tests))
