-- `groups::mark::mark_body` meets its contract. Assumes nothing.
use borrow.Author.Rules.{rules}
use Rattle.groups.proofs.Marking.{mark_none, mark_one}
use Rattle.groups.proofs.mark.mark_body.Goals as goal

ruleset known = (mark_none, mark_one, rules)

pub returns-then-is_massless : goal.returns-then-is_massless
returns-then-is_massless c = search known

pub returns : goal.returns
returns c = search known
