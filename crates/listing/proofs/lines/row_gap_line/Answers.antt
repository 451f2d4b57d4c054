-- `listing::lines::row_gap_line` meets its contract. Assumes nothing.
use Rattle.listing.specs.Lines.{row_gap_line}
use Rattle.listing.proofs.Joined.{room_first, room_rest, wrote_join, room_as, wrote_as}
use Rattle.listing.proofs.Names.{measured_name_lem}
use Rattle.listing.proofs.lines.row_gap_line.Goals as goal

pub put_text-a-requires : goal.put_text-a-requires
unfolding row_gap_line
put_text-a-requires c =
    room_as measured_name_lem (room_first _ (room_first _ (room_first _ (room_first _ (room_first _ (room_first _ c.requires))))))

pub put_number-b-requires : goal.put_number-b-requires
unfolding row_gap_line
put_number-b-requires c =
    room_rest (room_first _ (room_first _ (room_first _ (room_first _ (room_first _ c.requires))))) (wrote_as measured_name_lem c.put_text-a.ensures)

pub put_number-c-requires : goal.put_number-c-requires
unfolding row_gap_line
put_number-c-requires c =
    room_rest (room_first _ (room_first _ (room_first _ (room_first _ c.requires)))) (wrote_join (wrote_as measured_name_lem c.put_text-a.ensures) c.put_number-b.ensures)

pub put_double-d-requires : goal.put_double-d-requires
unfolding row_gap_line
put_double-d-requires c =
    room_rest (room_first _ (room_first _ (room_first _ c.requires))) (wrote_join (wrote_join (wrote_as measured_name_lem c.put_text-a.ensures) c.put_number-b.ensures) c.put_number-c.ensures)

pub put_double-e-requires : goal.put_double-e-requires
unfolding row_gap_line
put_double-e-requires c =
    room_rest (room_first _ (room_first _ c.requires)) (wrote_join (wrote_join (wrote_join (wrote_as measured_name_lem c.put_text-a.ensures) c.put_number-b.ensures) c.put_number-c.ensures) c.put_double-d.ensures)

pub put_number-f-requires : goal.put_number-f-requires
unfolding row_gap_line
put_number-f-requires c =
    room_rest (room_first _ c.requires) (wrote_join (wrote_join (wrote_join (wrote_join (wrote_as measured_name_lem c.put_text-a.ensures) c.put_number-b.ensures) c.put_number-c.ensures) c.put_double-d.ensures) c.put_double-e.ensures)

pub put_byte-requires : goal.put_byte-requires
unfolding row_gap_line
put_byte-requires c =
    room_rest c.requires (wrote_join (wrote_join (wrote_join (wrote_join (wrote_join (wrote_as measured_name_lem c.put_text-a.ensures) c.put_number-b.ensures) c.put_number-c.ensures) c.put_double-d.ensures) c.put_double-e.ensures) c.put_number-f.ensures)

pub returns : goal.returns
unfolding row_gap_line
returns c =
    wrote_join (wrote_join (wrote_join (wrote_join (wrote_join (wrote_join (wrote_as measured_name_lem c.put_text-a.ensures) c.put_number-b.ensures) c.put_number-c.ensures) c.put_double-d.ensures) c.put_double-e.ensures) c.put_number-f.ensures) c.put_byte.ensures
