-- `loops::fill_all` meets its contract: the elements below x-index are the value. Assumes nothing.
use Rattle.loops.proofs.Fill.{fills}
use Rattle.loops.proofs.fill_all.Goals as goal

pub loop-x-init : goal.loop-x-init
loop-x-init g c = search fills

pub loop-x-preserved : goal.loop-x-preserved
loop-x-preserved g c = search fills

pub returns-after-loop-x : goal.returns-after-loop-x
returns-after-loop-x g c = search fills
