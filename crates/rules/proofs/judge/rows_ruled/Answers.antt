-- `rules::judge::rows_ruled` meets its contract. Assumes nothing.
use Rattle.std.proofs.Common.{rules}
use borrow.Author.Tests.{tests}
use Rattle.loops.proofs.Chains.{every_from_all}
use Rattle.rules.specs.Rows.{rows_ruled}
use Rattle.rules.proofs.judge.rows_ruled.Goals as goal

pub returns : goal.returns
unfolding rows_ruled
returns c = every_from_all _ (cc) c.all.ensures.ran (λ x b h k. search (rules, tests))
