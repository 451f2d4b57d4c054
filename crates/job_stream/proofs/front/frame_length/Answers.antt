-- `job_stream::front::frame_length` meets its contract. Assumes nothing.
use borrow.Author.Rules.{rules}
use Rattle.job_stream.specs.Stream.{frame_length}
use Rattle.job_stream.proofs.front.frame_length.Goals as goal

pub half-requires : goal.half-requires
unfolding frame_length
half-requires c =
    search rules

pub returns : goal.returns
unfolding frame_length
returns c =
    search rules
