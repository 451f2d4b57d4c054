-- `block_factor::stretch::less_later` meets its contract: the k rows below are subtracted. Assumes nothing.
use Rattle.block_factor.proofs.Cells.{Counts}
use Rattle.block_factor.specs.Solves.{block_backward_less}
use Rattle.block_factor.proofs.stretch.less_later.Given as goal

abbrev pub invariant-loop-k : goal.invariant-loop-k
invariant-loop-k l =
    Counts (block_backward_less l.lower l.part l.row) l.value l.below l.k l.rest
