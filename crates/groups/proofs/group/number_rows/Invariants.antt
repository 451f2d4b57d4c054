-- `groups::group::number_rows` meets its contract: the keys below i are numbered. Assumes nothing.
use Rattle.groups.proofs.Number.{Numbering}
use Rattle.groups.proofs.group.number_rows.Given as goal

abbrev pub invariant-loop-i : goal.invariant-loop-i
invariant-loop-i l = Numbering l.initial.groups l.initial.table l.rows l.i l.groups l.table l.count
