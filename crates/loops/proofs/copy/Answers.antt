-- `loops::copy` meets its contract: the first i numbers are those of `from`. Assumes nothing.
use Rattle.loops.proofs.Fill.{fills}
use Rattle.loops.proofs.copy.Goals as goal

pub loop-i-init : goal.loop-i-init
loop-i-init c = search fills

pub loop-i-preserved : goal.loop-i-preserved
loop-i-preserved c = search fills

pub returns : goal.returns
returns c = search fills
