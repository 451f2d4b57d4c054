-- `block_factor::stretch::backward` meets its contract: the last t rows are solved. Assumes nothing.
use mathlib.Core.Path.{◌≡◌}
use lib.ListN.{length}
use Rattle.block_factor.specs.Solves.{block_backward_turn}
use Rattle.loops.proofs.Loop.{At}
use Rattle.block_factor.proofs.stretch.backward.Given as goal

abbrev pub invariant-loop-t : goal.invariant-loop-t
invariant-loop-t l =
    (length l.part ≡ length l.initial.part) × At (block_backward_turn l.lower (length l.initial.part)) l.initial.part (length l.initial.part) l.t l.part
