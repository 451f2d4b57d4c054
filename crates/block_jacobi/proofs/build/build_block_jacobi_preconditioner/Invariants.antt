-- `block_jacobi::build::build_block_jacobi_preconditioner` meets its contract: the runs before `start` have their blocks. Assumes nothing.
use Prim.Native.Nat.{◌-◌}
use lib.ListN.{length}
use Rattle.mass_operator.specs.System.{compact_system}
use Rattle.block_jacobi.specs.Runs.{owner_in}
use Rattle.block_jacobi.specs.Blocks.{block_turn}
use Rattle.block_jacobi.proofs.RunsOf.{Runs}
use Rattle.block_jacobi.proofs.build.build_block_jacobi_preconditioner.Given as goal

abbrev pub invariant-loop-start : goal.invariant-loop-start
invariant-loop-start l =
    Runs (block_turn (compact_system (length l.owners) l.bodies l.jacobians l.links l.masses) (owner_in l.owners)) (owner_in l.owners) l.initial.blocks (length l.owners) l.start l.blocks

abbrev pub decreases-loop-start : goal.decreases-loop-start
decreases-loop-start l = length l.owners - l.start
