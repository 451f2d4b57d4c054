-- `proposals::commit::same_multipliers` meets its contract. Assumes nothing.
use Rattle.std.proofs.Common.{rules}
use borrow.Author.Tests.{tests}
use Rattle.loops.proofs.Chains.{every_from_all}
use Rattle.proposals.specs.Commit.{same_multipliers}
use Rattle.proposals.proofs.commit.same_multipliers.Goals as goal

pub returns : goal.returns
unfolding same_multipliers
returns c = every_from_all _ (cc) c.all.ensures.ran (λ x b h k. search (rules, tests))
