-- `mass_operator::product::respond` meets its contract: the bodies below b have their response. Assumes nothing.
use Rattle.loops.proofs.Loop.{loops}
use Rattle.mass_operator.proofs.Sums.{turned_all, turned_more, turned_none}
use Rattle.mass_operator.proofs.product.respond.Goals as goal

ruleset known = (turned_none, turned_more, turned_all, loops)

pub loop-b-init : goal.loop-b-init
loop-b-init c = search known

pub respond_at-requires : goal.respond_at-requires
respond_at-requires c = search known

pub loop-b-preserved : goal.loop-b-preserved
loop-b-preserved c = search known

pub returns : goal.returns
returns c = turned_all _ c.loop-b.invariant c.loop-b-test.false
