-- `groups::group::number_row` meets its contract. Assumes nothing.
use borrow.Author.Rules.{rules}
use Rattle.groups.proofs.Number.{number_new, number_old}
use Rattle.groups.proofs.group.number_row.Goals as goal

ruleset known = (number_new, number_old, rules)

pub returns-then-seen-eq0 : goal.returns-then-seen-eq0
returns-then-seen-eq0 c = search known

pub returns : goal.returns
returns c = search known
