-- `groups_sheet::lines::groups_line` meets its contract. Assumes nothing.
use Rattle.listing.proofs.Joined.{room_first, room_rest, wrote_join, room_as, wrote_as}
use Rattle.groups_sheet.specs.Text.{groups_line}
use Rattle.groups_sheet.proofs.Words.{groups_name_lem}
use Rattle.groups_sheet.proofs.lines.groups_line.Goals as goal

pub put_text-a-requires : goal.put_text-a-requires
unfolding groups_line
put_text-a-requires c =
    room_as groups_name_lem (room_first _ (room_first _ (room_first _ c.requires)))

pub put_number-b-requires : goal.put_number-b-requires
unfolding groups_line
put_number-b-requires c =
    room_rest (room_first _ (room_first _ c.requires)) (wrote_as groups_name_lem c.put_text-a.ensures)

pub put_number-c-requires : goal.put_number-c-requires
unfolding groups_line
put_number-c-requires c =
    room_rest (room_first _ c.requires) (wrote_join (wrote_as groups_name_lem c.put_text-a.ensures) c.put_number-b.ensures)

pub put_byte-requires : goal.put_byte-requires
unfolding groups_line
put_byte-requires c =
    room_rest c.requires (wrote_join (wrote_join (wrote_as groups_name_lem c.put_text-a.ensures) c.put_number-b.ensures) c.put_number-c.ensures)

pub returns : goal.returns
unfolding groups_line
returns c =
    wrote_join (wrote_join (wrote_join (wrote_as groups_name_lem c.put_text-a.ensures) c.put_number-b.ensures) c.put_number-c.ensures) c.put_byte.ensures
