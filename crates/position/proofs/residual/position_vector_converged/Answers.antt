-- `position::residual::position_vector_converged` meets its contract. Assumes nothing.
use Rattle.std.proofs.Common.{rules}
use borrow.Author.Tests.{tests}
use Rattle.loops.proofs.Chains.{every_from_all}
use Rattle.position.specs.Residual.{meets_of}
use Rattle.position.proofs.residual.position_vector_converged.Goals as goal

pub returns : goal.returns
unfolding meets_of
returns c = every_from_all _ (cc) c.all.ensures.ran (λ x b h k. search (rules, tests))
