-- `triangular::substitution::backward` meets its contract. Assumes nothing.
use Rattle.loops.proofs.Loop.{loops}
use Rattle.triangular.proofs.Solves.{backward_at, solved_on, solved_out_lem}
use Rattle.triangular.specs.Triangular.{backward_run}
use Rattle.triangular.proofs.substitution.backward.Goals as goal

ruleset known = (solved_on, solved_out_lem, backward_at, loops)

pub loop-t-init : goal.loop-t-init
unfolding backward_run
loop-t-init c =
    search known

pub returns-in_err-backward_at : goal.returns-in_err-backward_at
unfolding backward_run
returns-in_err-backward_at c =
    search known

pub loop-t-preserved : goal.loop-t-preserved
unfolding backward_run
loop-t-preserved c =
    search known

pub returns : goal.returns
unfolding backward_run
returns c =
    search known
