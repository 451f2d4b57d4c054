-- `check_measure::largest::largest_reaches` meets its contract: maxima are those of the rows below i. Assumes nothing.
use mathlib.Core.Path.{refl}
use native.Mathlib.Omega.{arith}
use borrow.Author.Rules.{rules}
use Rattle.kapitsa_joint.proofs.Largest.{largest_end, largest_more, largest_none}
use Rattle.check_measure.proofs.largest.largest_reaches.Goals as goal

ruleset known = (largest_none, largest_end, rules)

pub loop-i-init : goal.loop-i-init
loop-i-init c = search known

pub loop-i-preserved : goal.loop-i-preserved
loop-i-preserved c = largest_more c.loop-i.invariant (omega arith) c.dimension.ensures refl c.raised-maxima.ensures

pub returns : goal.returns
returns c = search known
