-- `solve_recorded::tally::more` meets its contract. Assumes nothing.
use Rattle.std.proofs.Common.{◌∙◌}
use Rattle.solve_recorded.specs.Tally.{more_of}
use Rattle.solve_recorded.proofs.tally.more.Goals as goal

pub wrapping_add_u32-requires : goal.wrapping_add_u32-requires
unfolding more_of
wrapping_add_u32-requires c =
    record {}

pub returns-then-holds : goal.returns-then-holds
unfolding more_of
returns-then-holds c =
    c.wrapping_add_u32.ensures.value ∙ rw c.if-holds.true

pub returns : goal.returns
unfolding more_of
returns c =
    rw c.if-holds.false
