-- `groups_sheet::lines::group_line` meets its contract. Assumes nothing.
use mathlib.Core.Path.{ap}
use Rattle.listing.specs.Digits.{number}
use Rattle.listing.proofs.Joined.{room_first, room_rest, wrote_join, room_as, wrote_as}
use Rattle.groups_sheet.specs.Text.{group_line}
use Rattle.groups_sheet.proofs.Words.{group_name_lem}
use Rattle.groups_sheet.proofs.lines.group_line.Goals as goal

pub put_text-a-requires : goal.put_text-a-requires
unfolding group_line
put_text-a-requires c =
    room_as group_name_lem (room_first _ (room_first _ (room_first _ (room_first _ c.requires.2))))

pub put_number-b-requires : goal.put_number-b-requires
unfolding group_line
put_number-b-requires c =
    room_rest (room_first _ (room_first _ (room_first _ c.requires.2))) (wrote_as group_name_lem c.put_text-a.ensures)

pub put_number-c-requires : goal.put_number-c-requires
unfolding group_line
put_number-c-requires c =
    room_as (ap number c.requires.1) (room_rest (room_first _ (room_first _ c.requires.2)) (wrote_join (wrote_as group_name_lem c.put_text-a.ensures) c.put_number-b.ensures))

pub put_rows-d-requires : goal.put_rows-d-requires
unfolding group_line
put_rows-d-requires c =
    (c.requires.0, room_rest (room_first _ c.requires.2) (wrote_join (wrote_join (wrote_as group_name_lem c.put_text-a.ensures) c.put_number-b.ensures) (wrote_as (ap number c.requires.1) c.put_number-c.ensures)))

pub put_byte-requires : goal.put_byte-requires
unfolding group_line
put_byte-requires c =
    room_rest c.requires.2 (wrote_join (wrote_join (wrote_join (wrote_as group_name_lem c.put_text-a.ensures) c.put_number-b.ensures) (wrote_as (ap number c.requires.1) c.put_number-c.ensures)) c.put_rows-d.ensures)

pub returns : goal.returns
unfolding group_line
returns c =
    wrote_join (wrote_join (wrote_join (wrote_join (wrote_as group_name_lem c.put_text-a.ensures) c.put_number-b.ensures) (wrote_as (ap number c.requires.1) c.put_number-c.ensures)) c.put_rows-d.ensures) c.put_byte.ensures
