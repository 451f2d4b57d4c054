-- `block_jacobi::apply::apply_block_jacobi_preconditioner` meets its contract: the stretches of the runs before `start` are solved. Assumes nothing.
use Prim.Native.Nat.{◌-◌}
use mathlib.Core.Path.{◌≡◌}
use lib.ListN.{length}
use Rattle.block_jacobi.specs.Runs.{owner_in}
use Rattle.block_jacobi.specs.Blocks.{block_in, solve_turn}
use Rattle.block_jacobi.proofs.RunsOf.{Runs}
use Rattle.block_jacobi.proofs.apply.apply_block_jacobi_preconditioner.Given as goal

abbrev pub invariant-loop-start : goal.invariant-loop-start
invariant-loop-start l =
    (length l.output ≡ length l.initial.output) × Runs (solve_turn (block_in l.blocks) (owner_in l.owners) l.residual) (owner_in l.owners) l.initial.output (length l.owners) l.start l.output

abbrev pub decreases-loop-start : goal.decreases-loop-start
decreases-loop-start l = length l.owners - l.start
