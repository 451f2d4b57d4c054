-- `closing_recorded::replay::same_gap` meets its contract. Assumes nothing.
use Rattle.std.proofs.Common.{rules}
use Rattle.closing_recorded.specs.Case.{same_gap}
use Rattle.closing_recorded.proofs.replay.same_gap.Goals as goal

pub to_bits-requires : goal.to_bits-requires
unfolding same_gap
to_bits-requires c =
    search rules

pub to_bits-requires-2 : goal.to_bits-requires-2
unfolding same_gap
to_bits-requires-2 c =
    search rules

pub returns : goal.returns
unfolding same_gap
returns c =
    rw (c.to_bits.ensures.value, c.to_bits-2.ensures.value)
