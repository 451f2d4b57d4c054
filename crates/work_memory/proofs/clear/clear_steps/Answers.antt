-- `work_memory::clear::clear_steps` meets its contract. Assumes nothing.
use Rattle.loops.proofs.Loop.{loops}
use Rattle.work_memory.proofs.Cleared.{steps_cleared}
use Rattle.work_memory.proofs.clear.clear_steps.Goals as goal

ruleset known = (loops)

pub clear-requires : goal.clear-requires
clear-requires c =
    search known

pub clear-requires-2 : goal.clear-requires-2
clear-requires-2 c =
    search known

pub clear-requires-3 : goal.clear-requires-3
clear-requires-3 c =
    search known

pub clear-requires-4 : goal.clear-requires-4
clear-requires-4 c =
    search known

pub clear_words-requires : goal.clear_words-requires
clear_words-requires c =
    search known

pub clear_words-requires-2 : goal.clear_words-requires-2
clear_words-requires-2 c =
    search known

pub clear-requires-5 : goal.clear-requires-5
clear-requires-5 c =
    search known

pub returns : goal.returns
returns c =
    steps_cleared c.args.tolerances.now _ c.args.diagonal.now _ c.args.direction.now _ c.args.product.now _ c.args.pattern.now _ c.args.order.now _ c.args.values.now _ c.clear.ensures c.clear-2.ensures c.clear-3.ensures c.clear-4.ensures c.clear_words.ensures c.clear_words-2.ensures c.clear-5.ensures
