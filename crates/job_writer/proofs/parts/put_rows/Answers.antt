-- `job_writer::parts::put_rows` meets its contract: the rows below i are written. Assumes nothing.
use native.Mathlib.Omega.{arith}
use Rattle.listing.proofs.Pieces.{writing_none, writing_room, writing_more, writing_end}
use Rattle.job_writer.proofs.parts.put_rows.Goals as goal

pub loop-i-init : goal.loop-i-init
loop-i-init c =
    writing_none c.requires.2

pub put_row-next-requires : goal.put_row-next-requires
put_row-next-requires c =
    (omega arith, omega arith, writing_room c.loop-i.invariant (omega arith))

pub loop-i-preserved : goal.loop-i-preserved
loop-i-preserved c =
    writing_more c.loop-i.invariant (omega arith) c.put_row-next.ensures

pub returns : goal.returns
returns c =
    writing_end c.loop-i.invariant (omega arith)
