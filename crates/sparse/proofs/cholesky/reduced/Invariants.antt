-- `sparse::cholesky::reduced` meets its contract. Assumes nothing.
use Rattle.sparse.proofs.Hop.{Hops, plain}
use Rattle.sparse.specs.Cholesky.{less_turn}
use Rattle.sparse.specs.Kept.{numbers, start}
use Rattle.sparse.proofs.cholesky.reduced.Given as goal

abbrev pub invariant-loop-q : goal.invariant-loop-q
invariant-loop-q l =
    Hops (plain (less_turn (numbers l.starts l.columns l.values) l.i l.j)) l.value l.columns (start l.starts l.j) l.q-end l.j l.q l.rest
