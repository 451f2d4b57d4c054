-- `position::centre::moved_finite` meets its contract. Assumes nothing.
use Rattle.std.proofs.Common.{rules}
use borrow.Author.Tests.{tests}
use Rattle.loops.proofs.Chains.{every_from_all}
use Rattle.joint_refusals.specs.Refusals.{centres_finite}
use Rattle.position.proofs.Moved.{moved_tested}
use Rattle.position.proofs.centre.moved_finite.Goals as goal

pub returns : goal.returns
unfolding centres_finite
returns c = every_from_all _ (cc) c.all.ensures.ran (λ x b h k. search (moved_tested, rules, tests))
