-- `mass_operator::finite::all_finite` meets its contract: so far it tells whether the numbers below x-index are finite. Assumes nothing.
use lib.Ieee.{nan}
use lib.Ieee.Scale.{finite}
use lib.ListN.{get_or, length}
use Rattle.mass_operator.proofs.AllFinite.{SoFar}
use Rattle.mass_operator.proofs.finite.all_finite.Given as goal

abbrev pub invariant-loop-x : goal.invariant-loop-x
invariant-loop-x l = SoFar (λ k. finite (get_or l.numbers k nan)) (length l.numbers) l.x-index l.all
