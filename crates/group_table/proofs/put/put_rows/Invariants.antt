-- `group_table::put::put_rows` meets its contract: the rows below i are put back. Assumes nothing.
use Rattle.group_table.specs.Steps.{Scattering}
use Rattle.group_table.proofs.put.put_rows.Given as goal

abbrev pub ghost-put_row : goal.ghost-put_row
ghost-put_row g a = g.missing

abbrev pub invariant-loop-i : goal.invariant-loop-i
invariant-loop-i g l = Scattering g.missing l.width l.groups l.g l.rows l.i l.k l.from l.initial.to l.to
