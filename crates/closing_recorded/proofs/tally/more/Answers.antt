-- `closing_recorded::tally::more` meets its contract. Assumes nothing.
use Rattle.std.proofs.Common.{rules}
use Rattle.closing_recorded.specs.Tally.{more_of}
use Rattle.closing_recorded.proofs.tally.more.Goals as goal

pub wrapping_add_u32-requires : goal.wrapping_add_u32-requires
unfolding more_of
wrapping_add_u32-requires c =
    search rules

pub returns-then-holds : goal.returns-then-holds
unfolding more_of
returns-then-holds c =
    rw (c.if-holds.true, c.wrapping_add_u32.ensures.value)

pub returns-else-holds : goal.returns-else-holds
unfolding more_of
returns-else-holds c =
    rw c.if-holds.false
