-- `listing::lines::refused_row_line` meets its contract. Assumes nothing.
use Rattle.listing.specs.Lines.{refused_row_line}
use Rattle.listing.proofs.Joined.{room_first, room_rest, wrote_join, room_as, wrote_as}
use Rattle.listing.proofs.Names.{refused_row_text}
use Rattle.listing.proofs.lines.refused_row_line.Goals as goal

pub put_text-a-requires : goal.put_text-a-requires
unfolding refused_row_line
put_text-a-requires c =
    room_as refused_row_text (room_first _ (room_first _ (room_first _ c.requires)))

pub put_number-b-requires : goal.put_number-b-requires
unfolding refused_row_line
put_number-b-requires c =
    room_rest (room_first _ (room_first _ c.requires)) (wrote_as refused_row_text c.put_text-a.ensures)

pub put_number-c-requires : goal.put_number-c-requires
unfolding refused_row_line
put_number-c-requires c =
    let w1 = wrote_as refused_row_text c.put_text-a.ensures in
    room_rest (room_first _ c.requires) (wrote_join w1 c.put_number-b.ensures)

pub put_byte-requires : goal.put_byte-requires
unfolding refused_row_line
put_byte-requires c =
    let w1 = wrote_as refused_row_text c.put_text-a.ensures in
    room_rest c.requires (wrote_join (wrote_join w1 c.put_number-b.ensures) c.put_number-c.ensures)

pub returns : goal.returns
unfolding refused_row_line
returns c =
    let w1 = wrote_as refused_row_text c.put_text-a.ensures in
    wrote_join (wrote_join (wrote_join w1 c.put_number-b.ensures) c.put_number-c.ensures) c.put_byte.ensures
