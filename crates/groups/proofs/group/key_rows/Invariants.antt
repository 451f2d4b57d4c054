-- `groups::group::key_rows` meets its contract: the rows below i have their key. Assumes nothing.
use Rattle.groups.specs.Together.{links_in, joins_in}
use Rattle.groups.specs.Steps.{Front, key_of}
use Rattle.groups.proofs.group.key_rows.Given as goal

abbrev pub invariant-loop-i : goal.invariant-loop-i
invariant-loop-i l = Front (key_of (links_in l.words) (joins_in l.masses) l.bodies l.labels) l.i l.initial.keys l.keys
