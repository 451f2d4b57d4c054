-- `position_steps::ready::rows_ready` meets its contract. Assumes nothing.
use Rattle.std.proofs.Common.{rules}
use borrow.Author.Tests.{tests}
use Rattle.loops.proofs.Chains.{every_from_all}
use Rattle.position_steps.proofs.ready.rows_ready.Goals as goal

pub returns : goal.returns
returns c = every_from_all _ (cc) c.all.ensures.ran (λ x b h k. search (rules, tests))
