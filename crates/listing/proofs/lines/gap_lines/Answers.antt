-- `listing::lines::gap_lines` meets its contract: the lines below i are written. Assumes nothing.
use native.Mathlib.Omega.{arith}
use Rattle.listing.specs.Listing.{gap_lines}
use Rattle.listing.proofs.Joined.{room_as, wrote_as}
use Rattle.listing.proofs.Names.{row_gap_as}
use Rattle.listing.proofs.Pieces.{writing_none, writing_room, writing_more, writing_end}
use Rattle.listing.proofs.lines.gap_lines.Goals as goal

pub loop-i-init : goal.loop-i-init
unfolding gap_lines
loop-i-init c =
    writing_none c.requires.room

pub bounds-tolerances-rule : goal.bounds-tolerances-rule
bounds-tolerances-rule c =
    c.requires.rows_in_bounds.3.below _ (omega arith)

pub row_gap_line-next-requires : goal.row_gap_line-next-requires
unfolding gap_lines
row_gap_line-next-requires c =
    let line = row_gap_as c.args.words.now c.args.gaps.now c.args.rule_numbers.now c.args.tolerances.now c.loop-i.i in
    room_as line (writing_room c.loop-i.invariant (omega arith))

pub loop-i-preserved : goal.loop-i-preserved
unfolding gap_lines
loop-i-preserved c =
    let line = row_gap_as c.args.words.now c.args.gaps.now c.args.rule_numbers.now c.args.tolerances.now c.loop-i.i in
    writing_more c.loop-i.invariant (omega arith) (wrote_as line c.row_gap_line-next.ensures)

pub returns : goal.returns
unfolding gap_lines
returns c =
    writing_end c.loop-i.invariant (omega arith)
