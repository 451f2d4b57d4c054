-- `group_table::pick::count_row` meets its contract. Assumes nothing.
use Rattle.group_table.proofs.Picks.{picks}
use Rattle.group_table.proofs.pick.count_row.Goals as goal

pub returns-then-groups-i : goal.returns-then-groups-i
returns-then-groups-i c = search picks

pub returns : goal.returns
returns c = search picks
