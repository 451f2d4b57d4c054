-- `first_refusal::run::one_pair` meets its contract. Assumes nothing.
use Rattle.std.proofs.Common.{rules}
use borrow.Author.Tests.{tests}
use Rattle.loops.proofs.Chains.{every_from_all}
use Rattle.first_refusal.proofs.run.one_pair.Goals as goal

pub returns : goal.returns
returns c = every_from_all _ (cc) c.all.ensures.ran (λ x b h k. search (rules, tests))
