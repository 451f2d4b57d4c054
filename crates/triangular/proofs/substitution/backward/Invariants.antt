-- `triangular::substitution::backward` meets its contract. Assumes nothing.
use lib.ListN.{length}
use Rattle.loops.proofs.Loop.{At}
use Rattle.sparse.specs.Kept.{numbers}
use Rattle.triangular.specs.Triangular.{backward_turn}
use Rattle.triangular.proofs.substitution.backward.Given as goal

abbrev pub invariant-loop-t : goal.invariant-loop-t
invariant-loop-t l =
    At (backward_turn (numbers l.starts l.columns l.values) l.pivots) l.initial.output (length l.pivots) l.t l.output
