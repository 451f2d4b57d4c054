-- `block_jacobi::build::fill_block` meets its contract: the rows before `row` are made. Assumes nothing.
use Rattle.loops.proofs.Loop.{At}
use Rattle.mass_operator.specs.System.{compact_system}
use Rattle.block_factor.specs.Answers.{block_row_turn}
use Rattle.block_jacobi.proofs.build.fill_block.Given as goal

abbrev pub invariant-loop-row : goal.invariant-loop-row
invariant-loop-row l =
    At (block_row_turn (compact_system l.rows l.bodies l.jacobians l.links l.masses) l.start) l.initial.lower l.len l.row l.lower
