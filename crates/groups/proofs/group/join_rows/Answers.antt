-- `groups::group::join_rows` meets its contract: the rows below i have joined their bodies. Assumes nothing.
use Rattle.loops.proofs.Loop.{loops}
use Rattle.groups.proofs.Join.{joining_none, joining_more, joining_end, linked_a, linked_b}
use Rattle.groups.proofs.group.join_rows.Goals as goal

ruleset known = (joining_none, joining_more, joining_end, linked_a, linked_b, loops)

pub loop-i-init : goal.loop-i-init
loop-i-init c = search known
