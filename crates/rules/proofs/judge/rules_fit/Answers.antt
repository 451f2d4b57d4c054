-- `rules::judge::rules_fit` meets its contract. Assumes nothing.
use Rattle.std.proofs.Common.{rules}
use borrow.Author.Tests.{tests}
use Rattle.loops.proofs.Chains.{every_from_all}
use Rattle.rules.specs.Rules.{passes27}
use Rattle.rules.proofs.judge.rules_fit.Goals as goal

pub returns : goal.returns
unfolding passes27
returns c = every_from_all _ (cc) c.all.ensures.ran (λ x b h k. search (rules, tests))
