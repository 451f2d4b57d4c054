-- `block_factor::stretch::backward` meets its contract: the last t rows are solved. Assumes nothing.
use Rattle.block_factor.proofs.Stretches.{backs_on, backs_out}
use Rattle.block_factor.specs.Solves.{block_backward_run}
use Rattle.loops.proofs.Loop.{loops}
use Rattle.block_factor.proofs.stretch.backward.Goals as goal

ruleset known = (backs_on, backs_out, loops)

pub loop-t-init : goal.loop-t-init
unfolding block_backward_run
loop-t-init c =
    search known

pub returns-in_err-backward_at : goal.returns-in_err-backward_at
unfolding block_backward_run
returns-in_err-backward_at c =
    search known

pub loop-t-preserved : goal.loop-t-preserved
unfolding block_backward_run
loop-t-preserved c =
    search known

pub returns : goal.returns
unfolding block_backward_run
returns c =
    search known
