-- `group_table::pick::pick_row` meets its contract: what a place past the end is read as. Assumes nothing.
use Rattle.group_table.proofs.pick.pick_row.Given as goal

abbrev pub ghost-copy_row : goal.ghost-copy_row
ghost-copy_row g a = g.missing
