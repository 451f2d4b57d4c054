-- `solve_recorded::tally::Count::missing` meets its contract. Assumes nothing.
use Rattle.solve_recorded.specs.Tally.{missing_of}
use Rattle.solve_recorded.proofs.tally.Count.missing.Goals as goal

pub more-requires : goal.more-requires
unfolding missing_of
more-requires c =
    record {}

pub returns : goal.returns
unfolding missing_of
returns c =
    rw c.more.ensures
