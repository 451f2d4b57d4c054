-- `inertia::factor::factor_spd` meets its contract. Assumes nothing.
use borrow.Author.Rules.{rules}
use Rattle.inertia.proofs.Factoring.{factor_21, factor_22, factor_23, factor_on}
use Rattle.inertia.proofs.Accepted.{factor_tells, factor_none}
use Rattle.inertia.proofs.factor.factor_spd.Goals as goal

ruleset known = (factor_21, factor_22, factor_23, factor_on, factor_tells, factor_none, rules)

pub returns-then-not-is_finite : goal.returns-then-not-is_finite
returns-then-not-is_finite c = search known

pub returns-then-not-symmetric : goal.returns-then-not-symmetric
returns-then-not-symmetric c = search known

pub returns-then-scale : goal.returns-then-scale
returns-then-scale c = search known

pub returns : goal.returns
returns c = search known
