-- `sparse::cholesky::factor_row` meets its contract. Assumes nothing.
use lib.ListN.{get_or}
use lib.Ieee.{nan}
use Rattle.sparse.proofs.Hop.{Hops, plain}
use Rattle.sparse.specs.Cholesky.{column_turn, less_turn}
use Rattle.sparse.specs.Kept.{numbers}
use Rattle.sparse.specs.Marks.{Marked}
use Rattle.sparse.proofs.cholesky.factor_row.Given as goal

abbrev pub invariant-loop-p : goal.invariant-loop-p
invariant-loop-p l =
    Marked l.columns l.first l.p l.marks
    × Hops (column_turn l.pivots l.i) (numbers l.starts l.columns l.initial.values) l.columns l.first l.end l.i l.p (numbers l.starts l.columns l.values)
    × Hops (plain (less_turn (numbers l.starts l.columns l.values) l.i l.i)) (get_or l.pivots l.i nan) l.columns l.first l.end l.i l.p l.rest
