-- `group_table::copy::copy_row` meets its contract: c of the row are copied. Assumes nothing.
use Rattle.group_table.proofs.Picks.{Copying}
use Rattle.group_table.proofs.copy.copy_row.Given as goal

abbrev pub invariant-loop-c : goal.invariant-loop-c
invariant-loop-c g l = Copying g.missing l.width l.at l.put l.c l.from l.initial.to l.to
