-- `job_writer::parts::put_masses` meets its contract: the masses below b are written. Assumes nothing.
use native.Mathlib.Omega.{arith}
use Rattle.listing.proofs.Pieces.{writing_none, writing_room, writing_more, writing_end}
use Rattle.job_writer.proofs.parts.put_masses.Goals as goal

pub loop-b-init : goal.loop-b-init
loop-b-init c =
    writing_none c.requires.3

pub put_mass-next-requires : goal.put_mass-next-requires
put_mass-next-requires c =
    (omega arith, omega arith, omega arith, writing_room c.loop-b.invariant (omega arith))

pub loop-b-preserved : goal.loop-b-preserved
loop-b-preserved c =
    writing_more c.loop-b.invariant (omega arith) c.put_mass-next.ensures

pub returns : goal.returns
returns c =
    writing_end c.loop-b.invariant (omega arith)
