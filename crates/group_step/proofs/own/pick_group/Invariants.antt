-- `group_step::own::pick_group` meets its contract: what a place past the end is read as. Assumes nothing.
use lib.Ieee.{nan}
use Rattle.group_step.proofs.own.pick_group.Given as goal

abbrev pub ghost-pick_rows : goal.ghost-pick_rows
ghost-pick_rows a = nan

abbrev pub ghost-pick_rows-2 : goal.ghost-pick_rows-2
ghost-pick_rows-2 a = 0
