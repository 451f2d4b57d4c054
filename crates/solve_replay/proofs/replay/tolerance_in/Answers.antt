-- `solve_replay::replay::tolerance_in` meets its contract. Assumes nothing.

use Rattle.solve_replay.proofs.replay.tolerance_in.Goals as goal

pub from_bits-requires : goal.from_bits-requires
from_bits-requires c =
    record {}

pub from_bits-requires-2 : goal.from_bits-requires-2
from_bits-requires-2 c =
    record {}

pub returns : goal.returns
returns c =
    rw (c.from_bits.ensures.value, c.from_bits-2.ensures.value)
