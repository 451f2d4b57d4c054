-- `solve_recorded::tally::Count::closed` meets its contract. Assumes nothing.
use Rattle.solve_recorded.specs.Tally.{closed_of}
use Rattle.solve_recorded.proofs.tally.Count.closed.Goals as goal

pub more-requires : goal.more-requires
unfolding closed_of
more-requires c =
    record {}

pub returns : goal.returns
unfolding closed_of
returns c =
    rw c.more.ensures
