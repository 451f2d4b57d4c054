-- `block_factor::block::less_rows` meets its contract: the columns before k are subtracted. Assumes nothing.
use Rattle.block_factor.proofs.Cells.{Counts}
use Rattle.block_factor.specs.Blocks.{block_less}
use Rattle.block_factor.proofs.block.less_rows.Given as goal

abbrev pub invariant-loop-k : goal.invariant-loop-k
invariant-loop-k l =
    Counts (block_less l.lower l.row l.column) l.value l.column l.k l.rest
