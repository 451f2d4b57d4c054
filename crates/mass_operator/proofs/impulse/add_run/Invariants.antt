-- `mass_operator::impulse::add_run` meets its contract: the rows from `first` up to i are on the bodies that are held. Assumes nothing.
use lib.ListN.{length}
use Rattle.mass_operator.specs.Flat.{coefficients}
use Rattle.mass_operator.specs.BodyPair.{RunAdded}
use Rattle.mass_operator.proofs.impulse.add_run.Given as goal

abbrev pub invariant-loop-i : goal.invariant-loop-i
invariant-loop-i l = RunAdded l.jacobians l.links (coefficients l.vector) (length l.vector) l.first l.impulses record { pair = l.pair; end = l.i }
