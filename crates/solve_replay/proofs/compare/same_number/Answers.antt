-- `solve_replay::compare::same_number` meets its contract. Assumes nothing.
use borrow.Author.Rules.{rules}
use Rattle.solve_replay.specs.Compare.{same_number}
use Rattle.solve_replay.proofs.compare.same_number.Goals as goal

pub to_bits-requires : goal.to_bits-requires
unfolding same_number
to_bits-requires c =
    search rules

pub from_bits-requires : goal.from_bits-requires
unfolding same_number
from_bits-requires c =
    search rules

pub to_bits-requires-2 : goal.to_bits-requires-2
unfolding same_number
to_bits-requires-2 c =
    search rules

pub returns : goal.returns
unfolding same_number
returns c =
    rw (c.to_bits.ensures.value, c.to_bits-2.ensures.value, c.from_bits.ensures.value)
