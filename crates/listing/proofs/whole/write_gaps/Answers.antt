-- `listing::whole::write_gaps` meets its contract. Assumes nothing.
use Rattle.listing.proofs.Joined.{room_rest, wrote_join, room_as, wrote_as}
use Rattle.listing.proofs.Names.{gaps_some, gaps_none, gaps_head}
use Rattle.listing.proofs.whole.write_gaps.Goals as goal

pub head_lines-head-requires : goal.head_lines-head-requires
head_lines-head-requires c =
    gaps_head _ _ _ _ _ _ _ _ _ _ c.requires.room

pub returns-then-verdict-gt1 : goal.returns-then-verdict-gt1
returns-then-verdict-gt1 c =
    wrote_as (gaps_none _ _ _ _ _ _ _ _ _ _ c.if-verdict-gt1.true) c.head_lines-head.ensures

pub gap_lines-requires : goal.gap_lines-requires
gap_lines-requires c =
    record { rows_in_bounds = (c.requires.rows_in_bounds.0, c.requires.rows_in_bounds.1, c.requires.rows_in_bounds.2, c.requires.rows_in_bounds.3 c.if-verdict-gt1.false); room = room_rest (room_as (gaps_some _ _ _ _ _ _ _ _ _ _ c.if-verdict-gt1.false) c.requires.room) c.head_lines-head.ensures }

pub returns : goal.returns
returns c =
    wrote_as (gaps_some _ _ _ _ _ _ _ _ _ _ c.if-verdict-gt1.false) (wrote_join c.head_lines-head.ensures c.gap_lines.ensures)
