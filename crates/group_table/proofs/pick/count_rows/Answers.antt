-- `group_table::pick::count_rows` meets its contract: those below i are counted. Assumes nothing.
use Rattle.group_table.proofs.Picks.{counting_none}
use Rattle.group_table.proofs.pick.count_rows.Goals as goal

pub loop-i-init : goal.loop-i-init
loop-i-init c = counting_none
