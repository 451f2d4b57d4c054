-- `group_table::pick::pick_rows` meets its contract: the rows below i are picked. Assumes nothing.
use Rattle.group_table.specs.Steps.{Picking}
use Rattle.group_table.proofs.pick.pick_rows.Given as goal

abbrev pub ghost-pick_row : goal.ghost-pick_row
ghost-pick_row g a = g.missing

abbrev pub invariant-loop-i : goal.invariant-loop-i
invariant-loop-i g l = Picking g.missing l.width l.groups l.g l.rows l.i l.k l.from l.initial.to l.to
