-- `job_writer::bytes::put_doubles` meets its contract: the numbers below k are written. Assumes nothing.
use native.Mathlib.Omega.{arith}
use Rattle.listing.proofs.Pieces.{writing_none, writing_room, writing_more, writing_end}
use Rattle.job_writer.specs.Bytes.{doubles}
use Rattle.job_writer.proofs.bytes.put_doubles.Goals as goal

pub loop-k-init : goal.loop-k-init
unfolding doubles
loop-k-init c =
    writing_none c.requires.1

pub put_u64-next-requires : goal.put_u64-next-requires
unfolding doubles
put_u64-next-requires c =
    writing_room c.loop-k.invariant (omega arith)

pub loop-k-preserved : goal.loop-k-preserved
unfolding doubles
loop-k-preserved c =
    writing_more c.loop-k.invariant (omega arith) c.put_u64-next.ensures

pub returns : goal.returns
unfolding doubles
returns c =
    writing_end c.loop-k.invariant (omega arith)
