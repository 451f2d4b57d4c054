-- `groups_sheet::lines::put_row` meets its contract. Assumes nothing.
use Rattle.listing.proofs.Joined.{room_as, wrote_as}
use Rattle.groups_sheet.proofs.Words.{row_some, row_left}
use Rattle.groups_sheet.proofs.lines.put_row.Goals as goal

pub returns-then-groups-wide : goal.returns-then-groups-wide
returns-then-groups-wide c =
    row_left _ _ _ c.wide.ensures c.if-groups-wide.true c.requires.1

pub put_number-requires : goal.put_number-requires
put_number-requires c =
    room_as (row_some _ _ _ c.wide.ensures c.if-groups-wide.false) c.requires.1

pub returns : goal.returns
returns c =
    wrote_as (row_some _ _ _ c.wide.ensures c.if-groups-wide.false) c.put_number.ensures
