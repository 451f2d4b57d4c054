-- `group_table::pick::pick_row` meets its contract. Assumes nothing.
use Rattle.group_table.proofs.Picks.{picks}
use Rattle.group_table.proofs.pick.pick_row.Goals as goal

pub returns-then-groups-i : goal.returns-then-groups-i
returns-then-groups-i g c = search picks

pub returns : goal.returns
returns g c = search picks
