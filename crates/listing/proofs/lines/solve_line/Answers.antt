-- `listing::lines::solve_line` meets its contract. Assumes nothing.
use Rattle.listing.specs.Lines.{solve_line}
use Rattle.listing.proofs.Joined.{room_first, room_rest, wrote_join, room_as, wrote_as}
use Rattle.listing.proofs.Names.{solve_name_lem}
use Rattle.listing.proofs.lines.solve_line.Goals as goal

pub put_text-a-requires : goal.put_text-a-requires
unfolding solve_line
put_text-a-requires c =
    room_as solve_name_lem (room_first _ (room_first _ (room_first _ (room_first _ c.requires))))

pub put_number-b-requires : goal.put_number-b-requires
unfolding solve_line
put_number-b-requires c =
    room_rest (room_first _ (room_first _ (room_first _ c.requires))) (wrote_as solve_name_lem c.put_text-a.ensures)

pub put_number-c-requires : goal.put_number-c-requires
unfolding solve_line
put_number-c-requires c =
    room_rest (room_first _ (room_first _ c.requires)) (wrote_join (wrote_as solve_name_lem c.put_text-a.ensures) c.put_number-b.ensures)

pub put_number-d-requires : goal.put_number-d-requires
unfolding solve_line
put_number-d-requires c =
    room_rest (room_first _ c.requires) (wrote_join (wrote_join (wrote_as solve_name_lem c.put_text-a.ensures) c.put_number-b.ensures) c.put_number-c.ensures)

pub put_byte-requires : goal.put_byte-requires
unfolding solve_line
put_byte-requires c =
    room_rest c.requires (wrote_join (wrote_join (wrote_join (wrote_as solve_name_lem c.put_text-a.ensures) c.put_number-b.ensures) c.put_number-c.ensures) c.put_number-d.ensures)

pub returns : goal.returns
unfolding solve_line
returns c =
    wrote_join (wrote_join (wrote_join (wrote_join (wrote_as solve_name_lem c.put_text-a.ensures) c.put_number-b.ensures) c.put_number-c.ensures) c.put_number-d.ensures) c.put_byte.ensures
