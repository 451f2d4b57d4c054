-- `solve_replay::answer::same_result` meets its contract. Assumes nothing.
use Rattle.solve_replay.specs.Seen.{same_result}
use Rattle.solve_replay.proofs.answer.same_result.Goals as goal

pub flag-requires : goal.flag-requires
unfolding same_result
flag-requires c =
    record {}

pub to_bits-requires : goal.to_bits-requires
unfolding same_result
to_bits-requires c =
    record {}

pub to_bits-requires-2 : goal.to_bits-requires-2
unfolding same_result
to_bits-requires-2 c =
    record {}

pub returns : goal.returns
unfolding same_result
returns c =
    rw (c.flag.ensures.value, c.to_bits.ensures.value, c.to_bits-2.ensures.value)
