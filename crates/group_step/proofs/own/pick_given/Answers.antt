-- `group_step::own::pick_given` meets its contract. Assumes nothing.
use borrow.Author.Rules.{rules}
use Rattle.group_step.proofs.Owned.{given_none, given_some}
use Rattle.group_step.proofs.own.pick_given.Goals as goal

ruleset known = (given_none, given_some, rules)

pub returns-in-Position : goal.returns-in-Position
returns-in-Position c = search known

pub returns-in-Velocity : goal.returns-in-Velocity
returns-in-Velocity c = search known
