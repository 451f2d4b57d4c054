-- `group_table::pick::count_rows` meets its contract: those below i are counted. Assumes nothing.
use Rattle.group_table.specs.Steps.{Counting}
use Rattle.group_table.proofs.pick.count_rows.Given as goal

abbrev pub invariant-loop-i : goal.invariant-loop-i
invariant-loop-i l = Counting l.groups l.g l.rows l.i l.k
