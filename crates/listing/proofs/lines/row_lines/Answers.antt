-- `listing::lines::row_lines` meets its contract: the lines below i are written. Assumes nothing.
use native.Mathlib.Omega.{arith}
use Rattle.listing.proofs.Pieces.{writing_none, writing_room, writing_more, writing_end}
use Rattle.listing.specs.Listing.{row_lines}
use Rattle.listing.proofs.lines.row_lines.Goals as goal

pub loop-i-init : goal.loop-i-init
unfolding row_lines
loop-i-init c =
    writing_none c.requires.1

pub row_line-next-requires : goal.row_line-next-requires
unfolding row_lines
row_line-next-requires c =
    writing_room c.loop-i.invariant (omega arith)

pub loop-i-preserved : goal.loop-i-preserved
unfolding row_lines
loop-i-preserved c =
    writing_more c.loop-i.invariant (omega arith) c.row_line-next.ensures

pub returns : goal.returns
unfolding row_lines
returns c =
    writing_end c.loop-i.invariant (omega arith)
