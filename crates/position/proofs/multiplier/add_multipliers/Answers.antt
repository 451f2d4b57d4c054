-- `position::multiplier::add_multipliers` meets its contract: the rows below i have gained. Assumes nothing.
use borrow.Author.Rules.{rules}
use Rattle.position.proofs.Gains.{gains_end, gains_more, gains_none}
use Rattle.position.proofs.multiplier.add_multipliers.Goals as goal

ruleset known = (gains_none, gains_more, gains_end, rules)

pub loop-i-init : goal.loop-i-init
loop-i-init c =
    search known

pub loop-i-preserved : goal.loop-i-preserved
loop-i-preserved c =
    search known
