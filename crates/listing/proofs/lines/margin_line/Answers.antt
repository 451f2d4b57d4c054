-- `listing::lines::margin_line` meets its contract. Assumes nothing.
use Rattle.listing.specs.Lines.{margin_line}
use Rattle.listing.proofs.Joined.{room_first, room_rest, wrote_join, room_as, wrote_as}
use Rattle.listing.proofs.Names.{margin_name_lem}
use Rattle.listing.proofs.lines.margin_line.Goals as goal

pub put_text-a-requires : goal.put_text-a-requires
unfolding margin_line
put_text-a-requires c =
    room_as margin_name_lem (room_first _ (room_first _ (room_first _ c.requires)))

pub put_number-b-requires : goal.put_number-b-requires
unfolding margin_line
put_number-b-requires c =
    room_rest (room_first _ (room_first _ c.requires)) (wrote_as margin_name_lem c.put_text-a.ensures)

pub put_double-c-requires : goal.put_double-c-requires
unfolding margin_line
put_double-c-requires c =
    room_rest (room_first _ c.requires) (wrote_join (wrote_as margin_name_lem c.put_text-a.ensures) c.put_number-b.ensures)

pub put_byte-requires : goal.put_byte-requires
unfolding margin_line
put_byte-requires c =
    room_rest c.requires (wrote_join (wrote_join (wrote_as margin_name_lem c.put_text-a.ensures) c.put_number-b.ensures) c.put_double-c.ensures)

pub returns : goal.returns
unfolding margin_line
returns c =
    wrote_join (wrote_join (wrote_join (wrote_as margin_name_lem c.put_text-a.ensures) c.put_number-b.ensures) c.put_double-c.ensures) c.put_byte.ensures
