-- `mass_operator::product::respond` meets its contract: the bodies below b have their response. Assumes nothing.
use Rattle.mass_operator.proofs.Sums.{Turned}
use Rattle.mass_operator.proofs.product.respond.Given as goal

abbrev pub invariant-loop-b : goal.invariant-loop-b
invariant-loop-b l = Turned l.masses l.bodies l.b l.initial.body_impulses l.body_impulses
