-- `groups::group::join_rows` meets its contract: the rows below i have joined their bodies. Assumes nothing.
use Rattle.groups.specs.Together.{links_in, joins_in}
use Rattle.groups.proofs.Join.{Joining}
use Rattle.groups.proofs.group.join_rows.Given as goal

abbrev pub invariant-loop-i : goal.invariant-loop-i
invariant-loop-i l = Joining (links_in l.words) (joins_in l.masses) l.rows l.bodies l.i l.initial.labels l.labels
