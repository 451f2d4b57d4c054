-- `solve_replay::answer::refused_seen` meets its contract. Assumes nothing.
use native.Mathlib.Omega.{arith}
use Rattle.solve_replay.specs.Seen.{refused_seen}
use Rattle.solve_replay.proofs.answer.refused_seen.Goals as goal

pub place_of-requires : goal.place_of-requires
unfolding refused_seen
place_of-requires c =
    record {}

pub kept_numbers-requires : goal.kept_numbers-requires
unfolding refused_seen
kept_numbers-requires c =
    (omega (arith, c.requires.rows_len.0, c.requires.rows_len.1), omega (arith, c.requires.rows_len.1, c.requires.rows_bound.0))

pub unwritten-requires : goal.unwritten-requires
unfolding refused_seen
unwritten-requires c =
    record {}

pub unwritten-requires-2 : goal.unwritten-requires-2
unfolding refused_seen
unwritten-requires-2 c =
    record {}

pub unwritten-requires-3 : goal.unwritten-requires-3
unfolding refused_seen
unwritten-requires-3 c =
    record {}

pub returns : goal.returns
unfolding refused_seen
returns c =
    rw (c.kept_numbers.ensures, c.place_of.ensures, c.unwritten.ensures, c.unwritten-2.ensures, c.unwritten-3.ensures)
