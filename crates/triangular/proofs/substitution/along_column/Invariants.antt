-- `triangular::substitution::along_column` meets its contract. Assumes nothing.
use Rattle.sparse.proofs.Hop.{Hops, plain}
use Rattle.sparse.specs.Kept.{numbers}
use Rattle.triangular.proofs.Homes.{homes}
use Rattle.triangular.specs.Triangular.{along_turn, transposed}
use Rattle.triangular.proofs.substitution.along_column.Given as goal

abbrev pub invariant-loop-q : goal.invariant-loop-q
invariant-loop-q l =
    Hops (plain (along_turn (transposed (numbers l.starts l.columns l.values) l.j) l.output)) l.value (homes l.order l.rows) l.first l.end l.rows l.q l.rest
