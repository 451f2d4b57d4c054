-- `compact_table::compact::gather` meets its contract: the rows below i are in the compact table. Assumes nothing.
use Rattle.loops.proofs.Loop.{loops}
use Rattle.compact_table.proofs.Table.{gathered_all, gathered_more, gathered_none}
use Rattle.compact_table.proofs.compact.gather.Goals as goal

ruleset known = (gathered_none, gathered_more, gathered_all, loops)

pub loop-i-init : goal.loop-i-init
loop-i-init c = search known

pub loop-i-preserved : goal.loop-i-preserved
loop-i-preserved c =
    let gathered = c.gather_at.ensures in
    gathered_more c.args.rows c.loop-i.invariant (search known) (search known) (search known) gathered.jacobians_after gathered.links_after

pub returns : goal.returns
returns c = search known
