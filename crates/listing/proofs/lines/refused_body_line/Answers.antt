-- `listing::lines::refused_body_line` meets its contract. Assumes nothing.
use Rattle.listing.specs.Lines.{refused_body_line}
use Rattle.listing.proofs.Joined.{room_first, room_rest, wrote_join, room_as, wrote_as}
use Rattle.listing.proofs.Names.{refused_body_text}
use Rattle.listing.proofs.lines.refused_body_line.Goals as goal

pub put_text-name-requires : goal.put_text-name-requires
unfolding refused_body_line
put_text-name-requires c =
    room_as refused_body_text (room_first _ (room_first _ c.requires))

pub put_number-number-requires : goal.put_number-number-requires
unfolding refused_body_line
put_number-number-requires c =
    room_rest (room_first _ c.requires) (wrote_as refused_body_text c.put_text-name.ensures)

pub put_byte-requires : goal.put_byte-requires
unfolding refused_body_line
put_byte-requires c =
    room_rest c.requires (wrote_join (wrote_as refused_body_text c.put_text-name.ensures) c.put_number-number.ensures)

pub returns : goal.returns
unfolding refused_body_line
returns c =
    wrote_join (wrote_join (wrote_as refused_body_text c.put_text-name.ensures) c.put_number-number.ensures) c.put_byte.ensures
