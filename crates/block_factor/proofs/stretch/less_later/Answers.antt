-- `block_factor::stretch::less_later` meets its contract: the k rows below are subtracted. Assumes nothing.
use borrow.Author.Rules.{rules}
use Rattle.block_factor.proofs.Cells.{counts_end, counts_more, counts_none}
use Rattle.block_factor.proofs.Stretches.{backward_less}
use Rattle.block_factor.proofs.stretch.less_later.Goals as goal

ruleset known = (counts_none, counts_more, counts_end, backward_less, rules)

pub loop-k-init : goal.loop-k-init
loop-k-init c =
    search known

pub loop-k-preserved : goal.loop-k-preserved
loop-k-preserved c =
    search known

pub returns : goal.returns
returns c =
    search known
