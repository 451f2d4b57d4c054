-- `block_factor::stretch::less_earlier` meets its contract: the columns before k are subtracted. Assumes nothing.
use borrow.Author.Rules.{rules}
use Rattle.block_factor.proofs.Cells.{counts_end, counts_more, counts_none}
use Rattle.block_factor.proofs.Stretches.{forward_less}
use Rattle.block_factor.proofs.stretch.less_earlier.Goals as goal

ruleset known = (counts_none, counts_more, counts_end, forward_less, rules)

pub loop-k-init : goal.loop-k-init
loop-k-init c =
    search known

pub loop-k-preserved : goal.loop-k-preserved
loop-k-preserved c =
    search known

pub returns : goal.returns
returns c =
    search known
