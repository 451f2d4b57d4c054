-- `groups::group::join_row` meets its contract. Assumes nothing.
use borrow.Author.Rules.{rules}
use Rattle.groups.proofs.Join.{join_light_a, join_light_b, join_one, join_two}
use Rattle.groups.proofs.group.join_row.Goals as goal

ruleset known = (join_light_a, join_light_b, join_one, join_two, rules)

pub returns : goal.returns
returns c = search known
