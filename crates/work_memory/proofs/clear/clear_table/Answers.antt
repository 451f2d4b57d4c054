-- `work_memory::clear::clear_table` meets its contract. Assumes nothing.
use Rattle.loops.proofs.Loop.{loops}
use Rattle.work_memory.proofs.Cleared.{table_cleared}
use Rattle.work_memory.proofs.clear.clear_table.Goals as goal

ruleset known = (loops)

pub clear-requires : goal.clear-requires
clear-requires c =
    search known

pub clear_words-requires : goal.clear_words-requires
clear_words-requires c =
    search known

pub clear-requires-2 : goal.clear-requires-2
clear-requires-2 c =
    search known

pub clear-requires-3 : goal.clear-requires-3
clear-requires-3 c =
    search known

pub clear-requires-4 : goal.clear-requires-4
clear-requires-4 c =
    search known

pub returns : goal.returns
returns c =
    table_cleared c.args.jacobians.now _ c.args.links.now _ c.args.residual.now _ c.args.pending.now _ c.args.body_impulses.now _ c.clear.ensures c.clear_words.ensures c.clear-2.ensures c.clear-3.ensures c.clear-4.ensures
