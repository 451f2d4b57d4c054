-- `block_factor::stretch::forward` meets its contract: the rows before `row` are solved. Assumes nothing.
use mathlib.Core.Path.{◌≡◌}
use lib.ListN.{length}
use Rattle.block_factor.proofs.Cells.{Counts}
use Rattle.block_factor.specs.Solves.{block_forward_turn}
use Rattle.block_factor.proofs.stretch.forward.Given as goal

abbrev pub invariant-loop-row : goal.invariant-loop-row
invariant-loop-row l =
    (length l.part ≡ length l.initial.part) × Counts (block_forward_turn l.lower l.residual) l.initial.part (length l.residual) l.row l.part
