-- `listing::lines::carried_line` meets its contract. Assumes nothing.
use Rattle.listing.specs.Lines.{carried_line}
use Rattle.listing.proofs.Joined.{room_first, room_rest, wrote_join, room_as, wrote_as}
use Rattle.listing.proofs.Names.{carried_name_lem}
use Rattle.listing.proofs.lines.carried_line.Goals as goal

pub put_text-a-requires : goal.put_text-a-requires
unfolding carried_line
put_text-a-requires c =
    room_as carried_name_lem (room_first _ (room_first _ c.requires))

pub put_maxima-b-requires : goal.put_maxima-b-requires
unfolding carried_line
put_maxima-b-requires c =
    room_rest (room_first _ c.requires) (wrote_as carried_name_lem c.put_text-a.ensures)

pub put_byte-requires : goal.put_byte-requires
unfolding carried_line
put_byte-requires c =
    room_rest c.requires (wrote_join (wrote_as carried_name_lem c.put_text-a.ensures) c.put_maxima-b.ensures)

pub returns : goal.returns
unfolding carried_line
returns c =
    wrote_join (wrote_join (wrote_as carried_name_lem c.put_text-a.ensures) c.put_maxima-b.ensures) c.put_byte.ensures
