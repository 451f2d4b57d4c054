-- `block_jacobi::build::fill_row` meets its contract: the columns before `column` are made. Assumes nothing.
use Prim.Native.Nat.{◌+◌}
use Rattle.loops.proofs.Loop.{At}
use Rattle.mass_operator.specs.System.{compact_system}
use Rattle.block_factor.specs.Answers.{block_column_turn}
use Rattle.block_jacobi.proofs.build.fill_row.Given as goal

abbrev pub invariant-loop-column : goal.invariant-loop-column
invariant-loop-column l =
    At (block_column_turn (compact_system l.rows l.bodies l.jacobians l.links l.masses) l.start l.row) l.initial.lower (l.row + 1) l.column l.lower
