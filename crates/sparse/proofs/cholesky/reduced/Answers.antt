-- `sparse::cholesky::reduced` meets its contract. Assumes nothing.
use Rattle.sparse.proofs.Hop.{hops}
use Rattle.sparse.proofs.Marks.{less_inside, less_most, less_skip, less_way}
use Rattle.sparse.specs.Cholesky.{reduced_of}
use Rattle.sparse.proofs.cholesky.reduced.Goals as goal

ruleset known = (less_skip, less_way, less_inside, less_most, hops)

pub loop-q-init : goal.loop-q-init
unfolding reduced_of
loop-q-init c =
    rw (← c.row-other.ensures.from) (search known)

pub loop-q-preserved : goal.loop-q-preserved
unfolding reduced_of
loop-q-preserved c =
    search known

pub returns : goal.returns
unfolding reduced_of
returns c =
    search known
