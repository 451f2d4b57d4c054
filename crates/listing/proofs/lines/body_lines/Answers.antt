-- `listing::lines::body_lines` meets its contract: the lines below b are written. Assumes nothing.
use native.Mathlib.Omega.{arith}
use Rattle.listing.proofs.Pieces.{writing_none, writing_room, writing_more, writing_end}
use Rattle.listing.specs.Listing.{body_lines}
use Rattle.listing.proofs.lines.body_lines.Goals as goal

pub loop-b-init : goal.loop-b-init
unfolding body_lines
loop-b-init c =
    writing_none c.requires.2

pub body_line-next-requires : goal.body_line-next-requires
unfolding body_lines
body_line-next-requires c =
    (omega arith, omega arith, writing_room c.loop-b.invariant (omega arith))

pub loop-b-preserved : goal.loop-b-preserved
unfolding body_lines
loop-b-preserved c =
    writing_more c.loop-b.invariant (omega arith) c.body_line-next.ensures

pub returns : goal.returns
unfolding body_lines
returns c =
    writing_end c.loop-b.invariant (omega arith)
