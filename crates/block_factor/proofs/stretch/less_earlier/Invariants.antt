-- `block_factor::stretch::less_earlier` meets its contract: the columns before k are subtracted. Assumes nothing.
use Rattle.block_factor.proofs.Cells.{Counts}
use Rattle.block_factor.specs.Solves.{block_forward_less}
use Rattle.block_factor.proofs.stretch.less_earlier.Given as goal

abbrev pub invariant-loop-k : goal.invariant-loop-k
invariant-loop-k l =
    Counts (block_forward_less l.lower l.part l.row) l.value l.row l.k l.rest
