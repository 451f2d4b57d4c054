-- `group_step::deliver::put_group` meets its contract: what a place past the end is read as. Assumes nothing.
use lib.Ieee.{nan}
use Rattle.group_step.proofs.deliver.put_group.Given as goal

abbrev pub ghost-put_rows : goal.ghost-put_rows
ghost-put_rows a = nan

abbrev pub ghost-put_rows-2 : goal.ghost-put_rows-2
ghost-put_rows-2 a = 0
