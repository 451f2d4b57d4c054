-- `solve_by_rules::lent::residual_lent` meets its contract. Assumes nothing.
use borrow.Author.Rules.{rules}
use Rattle.solve_by_rules.specs.Ruled.{residual_lent}
use Rattle.solve_by_rules.proofs.lent.residual_lent.Goals as goal

pub wide-requires : goal.wide-requires
unfolding residual_lent
wide-requires c =
    search rules

pub returns-in-Position : goal.returns-in-Position
unfolding residual_lent
returns-in-Position c =
    rw c.in-Position.is

pub returns-in-Velocity : goal.returns-in-Velocity
unfolding residual_lent
returns-in-Velocity c =
    rw (c.in-Velocity.is, c.wide.ensures)
