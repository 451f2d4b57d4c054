-- `job_sheet::gaps::write_gaps_accepted` meets its contract. Assumes nothing.
use mathlib.Core.Path.{sym}
use lib.Seq.{length-take-le}
use Rattle.job_sheet.proofs.gaps.write_gaps_accepted.Goals as goal

pub slice_bounds-rule_numbers-end : goal.slice_bounds-rule_numbers-end
slice_bounds-rule_numbers-end c =
    c.requires.check_room.few_rows

pub slice_bounds-write_measured-end : goal.slice_bounds-write_measured-end
slice_bounds-write_measured-end c =
    sym (length-take-le _ _ c.requires.check_room.few_rows)

pub slice_bounds-gaps-end : goal.slice_bounds-gaps-end
slice_bounds-gaps-end c =
    c.requires.check_room.few_rows

pub slice_bounds-write_measured-end-2 : goal.slice_bounds-write_measured-end-2
slice_bounds-write_measured-end-2 c =
    sym (length-take-le _ _ c.requires.check_room.few_rows)

pub write_measured-requires : goal.write_measured-requires
write_measured-requires c =
    let few = c.requires.check_room.few_rows in
    record { check_room = c.requires.check_room; rule_numbers_len = (length-take-le _ _ few, length-take-le _ _ few, c.requires.in_bounds) }

pub returns : goal.returns
returns c =
    c.write_measured.ensures
