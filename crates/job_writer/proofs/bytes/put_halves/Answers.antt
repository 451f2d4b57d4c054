-- `job_writer::bytes::put_halves` meets its contract: the numbers below k are written. Assumes nothing.
use native.Mathlib.Omega.{arith}
use Rattle.listing.proofs.Pieces.{writing_none, writing_room, writing_more, writing_end}
use Rattle.job_writer.specs.Bytes.{halves}
use Rattle.job_writer.proofs.bytes.put_halves.Goals as goal

pub loop-k-init : goal.loop-k-init
unfolding halves
loop-k-init c =
    writing_none c.requires.1

pub put_u32-next-requires : goal.put_u32-next-requires
unfolding halves
put_u32-next-requires c =
    writing_room c.loop-k.invariant (omega arith)

pub loop-k-preserved : goal.loop-k-preserved
unfolding halves
loop-k-preserved c =
    writing_more c.loop-k.invariant (omega arith) c.put_u32-next.ensures

pub returns : goal.returns
unfolding halves
returns c =
    writing_end c.loop-k.invariant (omega arith)
