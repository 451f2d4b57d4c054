-- `groups::mark::mark_bodies` meets its contract. Assumes nothing.
use Rattle.groups.specs.Together.{links_in, joins_in}
use Rattle.groups.proofs.Marking.{Telling}
use Rattle.groups.proofs.mark.mark_bodies.Given as goal

abbrev pub invariant-loop-i : goal.invariant-loop-i
invariant-loop-i l = Telling (links_in l.words) (joins_in l.masses) l.rows l.bodies l.count l.groups l.i l.initial.marks l.marks
