-- `position::residual::residual_maxima` meets its contract: maxima are those of the rows below i. Assumes nothing.
use borrow.Author.Rules.{rules}
use Rattle.kapitsa_joint.proofs.Largest.{largest_end, largest_more, largest_none}
use Rattle.position.specs.Residual.{maxima_of}
use Rattle.position.proofs.residual.residual_maxima.Goals as goal

ruleset known = (largest_none, largest_more, largest_end, rules)

pub loop-i-init : goal.loop-i-init
unfolding maxima_of
loop-i-init c =
    search known

pub loop-i-preserved : goal.loop-i-preserved
unfolding maxima_of
loop-i-preserved c =
    search known

pub returns : goal.returns
unfolding maxima_of
returns c =
    search known
