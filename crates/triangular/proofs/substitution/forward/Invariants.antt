-- `triangular::substitution::forward` meets its contract. Assumes nothing.
use lib.ListN.{length}
use Rattle.loops.proofs.Loop.{At}
use Rattle.sparse.specs.Kept.{numbers}
use Rattle.triangular.specs.Triangular.{forward_turn}
use Rattle.triangular.proofs.substitution.forward.Given as goal

abbrev pub invariant-loop-i : goal.invariant-loop-i
invariant-loop-i l =
    At (forward_turn (numbers l.starts l.columns l.values) l.pivots l.residual) l.initial.output (length l.residual) l.i l.output
