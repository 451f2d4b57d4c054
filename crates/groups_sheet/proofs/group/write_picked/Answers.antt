-- `groups_sheet::group::write_picked` meets its contract. Assumes nothing.
use native.Mathlib.Omega.{arith}
use borrow.Author.Rules.{rules}
use Rattle.groups_sheet.proofs.Words.{group_room, behind_room, rows_few}
use Rattle.groups_sheet.proofs.Alone.{own_room, group_wrote}
use Rattle.groups_sheet.proofs.group.write_picked.Goals as goal

pub group_line-at-requires : goal.group_line-at-requires
group_line-at-requires c =
    (omega (arith, c.requires.bench_room.groups_long), c.requires.count_value.0, group_room _ _ _ _ (search (rules, c.well_formed)) c.requires.bench_room.few_rows (omega (arith, c.requires.in_bounds)))

pub returns : goal.returns
returns c =
    let a = c.args in group_wrote a.trailer a.numbers.now a.words.now a.masses.now a.centres.now a.g _ c.requires.count_value.0 c.with_rows.ensures c.pick_rows.ensures c.pick_rows-2.ensures c.group_line-at.ensures c.write_behind.ensures

pub write_behind-requires : goal.write_behind-requires
write_behind-requires c =
    record { job_room = own_room c.requires.bench_room c.requires.count_value.1 (omega (arith, c.requires.count_value.0, rows_few c.args.groups.now c.args.g c.args.trailer.rows)) c.with_rows.ensures c.own_numbers-1.given c.own_words-1.given; at_in_bounds = behind_room c.args.out.now _ c.args.groups.now c.args.g c.args.trailer.rows _ (search (rules, c.well_formed)) c.requires.bench_room.few_rows c.requires.in_bounds c.out-1.given c.group_line-at.ensures }
