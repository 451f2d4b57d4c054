-- `block_jacobi::run::run_length` meets its contract: the k rows from `start` on have its owner. Assumes nothing.
use Rattle.block_jacobi.proofs.Leading.{owned_more, owned_none, run_end, run_stop}
use Rattle.loops.proofs.Loop.{loops}
use Rattle.block_jacobi.proofs.run.run_length.Goals as goal

ruleset known = (owned_none, owned_more, run_stop, run_end, loops)

pub loop-k-init : goal.loop-k-init
loop-k-init c =
    search known

pub returns-then-owners-start : goal.returns-then-owners-start
returns-then-owners-start c =
    search known

pub loop-k-preserved : goal.loop-k-preserved
loop-k-preserved c =
    search known

pub returns : goal.returns
returns c =
    search known
