-- `pairs::values::fill_values` meets its contract: the rows below i have their values, and `fine` tells whether those are finite. Assumes nothing.
use Rattle.loops.proofs.Loop.{loops}
use Rattle.pairs.proofs.Places.{fine_end, fine_none, valued_end, valued_none}
use Rattle.pairs.proofs.values.fill_values.Goals as goal

ruleset known = (valued_none, valued_end, fine_none, fine_end, loops)

pub loop-i-init : goal.loop-i-init
loop-i-init c =
    search known
