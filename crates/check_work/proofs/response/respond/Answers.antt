-- `check_work::response::respond` meets its contract: the bodies below b have their responses. Assumes nothing.
use Rattle.loops.proofs.Loop.{loops}
use Rattle.mass_operator.proofs.Sums.{turned_all, turned_more, turned_none}
use Rattle.check_work.proofs.response.respond.Goals as goal

ruleset known = (turned_none, turned_more, turned_all, loops)

pub loop-b-init : goal.loop-b-init
loop-b-init c = search known

pub turn_both-requires : goal.turn_both-requires
turn_both-requires c = search known

pub loop-b-preserved : goal.loop-b-preserved
loop-b-preserved c = search known

pub returns : goal.returns
returns c = search known
