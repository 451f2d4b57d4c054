-- `check_measure::verdict::rows_close` meets its contract. Assumes nothing.
use Rattle.std.proofs.Common.{rules}
use Rattle.std.proofs.iter.Serving.{serving}
use borrow.Author.Tests.{tests}
use Rattle.loops.proofs.Chains.{every_from_all}
use Rattle.rules.proofs.EachRow.{row_ruled}
use Rattle.check_measure.proofs.verdict.rows_close.Goals as goal

pub all-requires-clause-callable : goal.all-requires-clause-callable
all-requires-clause-callable c = grind (serving, row_ruled)

pub returns : goal.returns
returns c = every_from_all _ (cc) c.all.ensures.ran (λ x b h k. search (rules, tests))
