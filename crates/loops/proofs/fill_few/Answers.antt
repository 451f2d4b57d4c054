-- `loops::fill_few` meets its contract: up to three elements, one by one. Assumes nothing.
use Rattle.loops.proofs.Few.{few}
use Rattle.loops.proofs.fill_few.Goals as goal

pub returns-then-n-lt2 : goal.returns-then-n-lt2
returns-then-n-lt2 g c = search few

pub returns-then-n-lt3 : goal.returns-then-n-lt3
returns-then-n-lt3 g c = search few

pub returns : goal.returns
returns g c = search few
