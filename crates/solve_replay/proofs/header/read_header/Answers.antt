-- `solve_replay::header::read_header` meets its contract. Assumes nothing.
use borrow.Author.Rules.{rules}
use Rattle.solve_replay.specs.Job.{header_of}
use Rattle.solve_replay.proofs.header.read_header.Goals as goal

pub short-requires : goal.short-requires
unfolding header_of
short-requires c =
    search rules

pub short-requires-2 : goal.short-requires-2
unfolding header_of
short-requires-2 c =
    search rules

pub short-requires-3 : goal.short-requires-3
unfolding header_of
short-requires-3 c =
    search rules

pub short-requires-4 : goal.short-requires-4
unfolding header_of
short-requires-4 c =
    search rules

pub short-requires-5 : goal.short-requires-5
unfolding header_of
short-requires-5 c =
    search rules

pub short-requires-6 : goal.short-requires-6
unfolding header_of
short-requires-6 c =
    search rules

pub short-requires-7 : goal.short-requires-7
unfolding header_of
short-requires-7 c =
    search rules

pub word-requires : goal.word-requires
unfolding header_of
word-requires c =
    search rules

pub word-requires-2 : goal.word-requires-2
unfolding header_of
word-requires-2 c =
    search rules

pub word-requires-3 : goal.word-requires-3
unfolding header_of
word-requires-3 c =
    search rules

pub word-requires-4 : goal.word-requires-4
unfolding header_of
word-requires-4 c =
    search rules

pub returns : goal.returns
unfolding header_of
returns c =
    rw (c.word-4.ensures, c.word-3.ensures, c.word-2.ensures, c.word.ensures, c.short-7.ensures, c.short-6.ensures, c.short-5.ensures, c.short-4.ensures, c.short-3.ensures, c.short-2.ensures, c.short.ensures)
