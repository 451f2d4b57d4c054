-- `listing::whole::write_listing` meets its contract. Assumes nothing.
use Rattle.listing.specs.Listing.{listing_of}
use Rattle.listing.proofs.Joined.{room_first, room_rest, wrote_join}
use Rattle.listing.proofs.whole.write_listing.Goals as goal

pub head_lines-head-requires : goal.head_lines-head-requires
unfolding listing_of
head_lines-head-requires c =
    room_first _ (room_first _ c.requires.3)

pub row_lines-row-requires : goal.row_lines-row-requires
unfolding listing_of
row_lines-row-requires c =
    (c.requires.0, room_rest (room_first _ c.requires.3) c.head_lines-head.ensures)

pub body_lines-requires : goal.body_lines-requires
unfolding listing_of
body_lines-requires c =
    (c.requires.1, c.requires.2, room_rest c.requires.3 (wrote_join c.head_lines-head.ensures c.row_lines-row.ensures))

pub returns : goal.returns
unfolding listing_of
returns c =
    wrote_join (wrote_join c.head_lines-head.ensures c.row_lines-row.ensures) c.body_lines.ensures
