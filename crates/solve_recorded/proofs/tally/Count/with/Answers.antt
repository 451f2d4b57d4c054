-- `solve_recorded::tally::Count::with` meets its contract. Assumes nothing.
use Rattle.solve_recorded.specs.Tally.{with_of}
use Rattle.solve_recorded.proofs.tally.Count.with.Goals as goal

pub more-requires : goal.more-requires
unfolding with_of
more-requires c =
    record {}

pub more-requires-2 : goal.more-requires-2
unfolding with_of
more-requires-2 c =
    record {}

pub more-requires-3 : goal.more-requires-3
unfolding with_of
more-requires-3 c =
    record {}

pub more-requires-4 : goal.more-requires-4
unfolding with_of
more-requires-4 c =
    record {}

pub more-requires-5 : goal.more-requires-5
unfolding with_of
more-requires-5 c =
    record {}

pub returns : goal.returns
unfolding with_of
returns c =
    rw (c.more.ensures, c.more-2.ensures, c.more-3.ensures, c.more-4.ensures, c.more-5.ensures)
