-- `mass_operator::impulse::add_run` meets its contract: the rows from `first` up to i are on the bodies that are held. Assumes nothing.
use Rattle.loops.proofs.Loop.{loops}
use Rattle.mass_operator.proofs.BodyPairs.{run_begun, run_on, run_ended}
use Rattle.mass_operator.proofs.impulse.add_run.Goals as goal

ruleset known = (run_begun, run_on, run_ended, loops)

pub loop-i-init : goal.loop-i-init
loop-i-init c = search known

pub loop-i-preserved : goal.loop-i-preserved
loop-i-preserved c = search known

pub returns : goal.returns
returns c = search known
