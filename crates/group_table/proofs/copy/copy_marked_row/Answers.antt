-- `group_table::copy::copy_marked_row` meets its contract. Assumes nothing.
use Rattle.group_table.proofs.Picks.{picks}
use Rattle.group_table.proofs.copy.copy_marked_row.Goals as goal

pub returns : goal.returns
returns c = search picks
