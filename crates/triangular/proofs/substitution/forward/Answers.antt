-- `triangular::substitution::forward` meets its contract. Assumes nothing.
use Rattle.loops.proofs.Loop.{loops}
use Rattle.triangular.proofs.Solves.{solved_on, solved_out_lem}
use Rattle.triangular.specs.Triangular.{forward_run}
use Rattle.triangular.proofs.substitution.forward.Goals as goal

ruleset known = (solved_on, solved_out_lem, loops)

pub loop-i-init : goal.loop-i-init
unfolding forward_run
loop-i-init c =
    search known

pub returns-in_err-forward_at : goal.returns-in_err-forward_at
unfolding forward_run
returns-in_err-forward_at c =
    search known

pub loop-i-preserved : goal.loop-i-preserved
unfolding forward_run
loop-i-preserved c =
    search known

pub returns : goal.returns
unfolding forward_run
returns c =
    search known
