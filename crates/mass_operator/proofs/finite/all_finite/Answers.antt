-- `mass_operator::finite::all_finite` meets its contract: so far it tells whether the numbers below x-index are finite. Assumes nothing.
use Rattle.mass_operator.specs.Applied.{all_finite_of}
use Rattle.mass_operator.proofs.AllFinite.{sofar}
use Rattle.mass_operator.proofs.finite.all_finite.Goals as goal

pub loop-x-init : goal.loop-x-init
loop-x-init c = search sofar

pub loop-x-preserved : goal.loop-x-preserved
loop-x-preserved c = search sofar

pub returns : goal.returns
unfolding all_finite_of
returns c = search sofar
