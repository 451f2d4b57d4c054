-- `closing_recorded::tally::Tally::with` meets its contract. Assumes nothing.
use Rattle.std.proofs.Common.{rules}
use Rattle.closing_recorded.specs.Tally.{with_of}
use Rattle.closing_recorded.proofs.tally.Tally.with.Goals as goal

pub more-requires : goal.more-requires
unfolding with_of
more-requires c =
    search rules

pub more-requires-2 : goal.more-requires-2
unfolding with_of
more-requires-2 c =
    search rules

pub more-requires-3 : goal.more-requires-3
unfolding with_of
more-requires-3 c =
    search rules

pub more-requires-4 : goal.more-requires-4
unfolding with_of
more-requires-4 c =
    search rules

pub more-requires-5 : goal.more-requires-5
unfolding with_of
more-requires-5 c =
    search rules

pub more-requires-6 : goal.more-requires-6
unfolding with_of
more-requires-6 c =
    search rules

pub more-requires-7 : goal.more-requires-7
unfolding with_of
more-requires-7 c =
    search rules

pub more-requires-8 : goal.more-requires-8
unfolding with_of
more-requires-8 c =
    search rules

pub more-requires-9 : goal.more-requires-9
unfolding with_of
more-requires-9 c =
    search rules

pub more-requires-10 : goal.more-requires-10
unfolding with_of
more-requires-10 c =
    search rules

pub returns : goal.returns
unfolding with_of
returns c =
    rw (c.more.ensures, c.more-2.ensures, c.more-3.ensures, c.more-4.ensures, c.more-5.ensures, c.more-6.ensures, c.more-7.ensures, c.more-8.ensures, c.more-9.ensures, c.more-10.ensures)
