-- `group_table::put::put_row` meets its contract: what a place past the end is read as. Assumes nothing.
use Rattle.group_table.proofs.put.put_row.Given as goal

abbrev pub ghost-copy_row : goal.ghost-copy_row
ghost-copy_row g a = g.missing
