-- `block_factor::block::less_rows` meets its contract: the columns before k are subtracted. Assumes nothing.
use borrow.Author.Rules.{rules}
use Rattle.block_factor.proofs.Cells.{counts_end, counts_more, counts_none, less_turn_lem}
use Rattle.block_factor.specs.Blocks.{less_of}
use Rattle.block_factor.proofs.block.less_rows.Goals as goal

ruleset known = (counts_none, counts_more, counts_end, less_turn_lem, rules)

pub loop-k-init : goal.loop-k-init
unfolding less_of
loop-k-init c =
    search known

pub loop-k-preserved : goal.loop-k-preserved
unfolding less_of
loop-k-preserved c =
    search known

pub returns : goal.returns
unfolding less_of
returns c =
    search known
