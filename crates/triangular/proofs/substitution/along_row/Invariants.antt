-- `triangular::substitution::along_row` meets its contract. Assumes nothing.
use Rattle.sparse.proofs.Hop.{Hops, plain}
use Rattle.sparse.specs.Kept.{numbers}
use Rattle.triangular.specs.Triangular.{along_turn}
use Rattle.triangular.proofs.substitution.along_row.Given as goal

abbrev pub invariant-loop-p : goal.invariant-loop-p
invariant-loop-p l =
    Hops (plain (along_turn (numbers l.starts l.columns l.values l.i) l.output)) l.value l.columns l.first l.end l.i l.p l.rest
