-- `block_factor::stretch::forward` meets its contract: the rows before `row` are solved. Assumes nothing.
use borrow.Author.Rules.{rules}
use Rattle.block_factor.proofs.Cells.{counts_end, counts_more, counts_none}
use Rattle.block_factor.proofs.Stretches.{forward_turn_lem}
use Rattle.block_factor.proofs.stretch.forward.Goals as goal

ruleset known = (counts_none, counts_more, counts_end, forward_turn_lem, rules)

pub loop-row-init : goal.loop-row-init
loop-row-init c =
    search known

pub loop-row-preserved : goal.loop-row-preserved
loop-row-preserved c =
    search known

pub returns : goal.returns
returns c =
    search known
