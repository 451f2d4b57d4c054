-- `listing::lines::margin_lines` meets its contract: the lines below k are written. Assumes nothing.
use native.Mathlib.Omega.{arith}
use Rattle.listing.proofs.Pieces.{writing_none, writing_room, writing_more, writing_end}
use Rattle.listing.specs.Listing.{margin_lines}
use Rattle.listing.proofs.lines.margin_lines.Goals as goal

pub loop-k-init : goal.loop-k-init
unfolding margin_lines
loop-k-init c =
    writing_none c.requires.2

pub margin_line-next-requires : goal.margin_line-next-requires
unfolding margin_lines
margin_line-next-requires c =
    writing_room c.loop-k.invariant (omega arith)

pub loop-k-preserved : goal.loop-k-preserved
unfolding margin_lines
loop-k-preserved c =
    writing_more c.loop-k.invariant (omega arith) c.margin_line-next.ensures

pub returns : goal.returns
unfolding margin_lines
returns c =
    writing_end c.loop-k.invariant (omega arith)
