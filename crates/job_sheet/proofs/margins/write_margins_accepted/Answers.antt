-- `job_sheet::margins::write_margins_accepted` meets its contract. Assumes nothing.
use mathlib.Core.Path.{sym}
use lib.Seq.{length-take-le}
use Rattle.job_sheet.proofs.margins.write_margins_accepted.Goals as goal

pub slice_bounds-rule_numbers-end : goal.slice_bounds-rule_numbers-end
slice_bounds-rule_numbers-end c =
    c.requires.check_room.few_rows

pub slice_bounds-write_listed-end : goal.slice_bounds-write_listed-end
slice_bounds-write_listed-end c =
    sym (length-take-le _ _ c.requires.check_room.few_rows)

pub slice_bounds-margin_rows-end : goal.slice_bounds-margin_rows-end
slice_bounds-margin_rows-end c =
    c.requires.check_room.few_rows

pub slice_bounds-write_listed-end-2 : goal.slice_bounds-write_listed-end-2
slice_bounds-write_listed-end-2 c =
    sym (length-take-le _ _ c.requires.check_room.few_rows)

pub slice_bounds-margins-end : goal.slice_bounds-margins-end
slice_bounds-margins-end c =
    c.requires.check_room.few_rows

pub slice_bounds-write_listed-end-3 : goal.slice_bounds-write_listed-end-3
slice_bounds-write_listed-end-3 c =
    sym (length-take-le _ _ c.requires.check_room.few_rows)

pub write_listed-requires : goal.write_listed-requires
write_listed-requires c =
    let few = c.requires.check_room.few_rows in
    record { check_room = c.requires.check_room; rule_numbers_len = (length-take-le _ _ few, length-take-le _ _ few, length-take-le _ _ few, c.requires.in_bounds) }

pub returns : goal.returns
returns c =
    c.write_listed.ensures
