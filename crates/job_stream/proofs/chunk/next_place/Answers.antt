-- `job_stream::chunk::next_place` meets its contract. Assumes nothing.
use native.Mathlib.Omega.{arith}
use Rattle.job_stream.proofs.Going.{rest_begun, rest_frame}
use Rattle.job_stream.proofs.chunk.next_place.Goals as goal

pub frame_length-requires : goal.frame_length-requires
frame_length-requires c =
    rest_begun c.args.at c.args.bytes.now c.requires

pub overflow_add-result : goal.overflow_add-result
overflow_add-result c =
    let f = c.frame_length.ensures.upper_bound in let p = c.requires in let g = c.well_formed.0 in omega arith

pub returns : goal.returns
returns c =
    rest_frame c.args.at c.args.bytes.now c.frame_length.ensures.value
