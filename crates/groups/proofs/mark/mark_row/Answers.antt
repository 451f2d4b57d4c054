-- `groups::mark::mark_row` meets its contract. Assumes nothing.
use borrow.Author.Rules.{rules}
use Rattle.groups.proofs.Marking.{marked_row}
use Rattle.groups.proofs.mark.mark_row.Goals as goal

ruleset known = (marked_row, rules)

pub returns : goal.returns
returns c = search known
