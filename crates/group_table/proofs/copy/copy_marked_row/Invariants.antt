-- `group_table::copy::copy_marked_row` meets its contract: what a place past the end is read as. Assumes nothing.
use lib.Ieee.{nan}
use Rattle.group_table.proofs.copy.copy_marked_row.Given as goal

abbrev pub ghost-copy_row : goal.ghost-copy_row
ghost-copy_row a = nan
