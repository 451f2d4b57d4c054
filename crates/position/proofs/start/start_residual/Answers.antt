-- `position::start::start_residual` meets its contract. Assumes nothing.
use borrow.Author.Rules.{rules}
use Rattle.position.proofs.Starts.{start_copied, start_negated, given_long}
use Rattle.position.proofs.start.start_residual.Goals as goal

ruleset known = (start_copied, start_negated, given_long, rules)

pub returns-in-Velocity : goal.returns-in-Velocity
returns-in-Velocity c =
    search known
