-- `position_iteration::iteration::iterate` meets its contract: k steps were made, and none met. Assumes nothing.
use lib.ListN.{length}
use Rattle.loops.proofs.Loop.{At}
use Rattle.steps.specs.Solve.{turn}
use Rattle.position_iteration.specs.Standing.{steps_in}
use Rattle.position_iteration.proofs.iteration.iterate.Given as goal

abbrev pub invariant-loop-k : goal.invariant-loop-k
invariant-loop-k l =
    At (turn (steps_in l.preconditioner (length l.tolerances) l.bodies l.tolerances l.masses l.jacobians l.links record { diagonal = l.diagonal; pattern = l.pattern; order = l.order; values = l.values }))
    (record { solution = l.initial.pending; residual = l.initial.residual }, record { direction = l.initial.direction; s = l.residual_product }) l.limit l.k
    (record { solution = l.pending; residual = l.residual }, record { direction = l.direction; s = l.s })
