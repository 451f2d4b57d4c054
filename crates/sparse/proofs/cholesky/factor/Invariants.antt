-- `sparse::cholesky::factor` meets its contract. Assumes nothing.
use lib.ListN.{length}
use Rattle.loops.proofs.Loop.{At}
use Rattle.sparse.specs.Cholesky.{row_turn}
use Rattle.sparse.specs.Kept.{numbers, start}
use Rattle.sparse.specs.Marks.{AtMost}
use Rattle.sparse.proofs.cholesky.factor.Given as goal

abbrev pub invariant-loop-i : goal.invariant-loop-i
invariant-loop-i l =
    AtMost l.marks (start l.starts l.i)
    × At row_turn (numbers l.starts l.columns l.initial.values, l.initial.pivots) (length l.initial.pivots) l.i (numbers l.starts l.columns l.values, l.pivots)
