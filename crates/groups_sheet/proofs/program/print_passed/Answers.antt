-- `groups_sheet::program::print_passed` meets its contract. Assumes nothing.
use mathlib.Core.Path.{sym}
use native.Mathlib.Omega.{arith}
use lib.Seq.{length-take-le}
use Rattle.job_sheet.proofs.Ways.{rows_few, bodies_few, mode_small}
use Rattle.groups_sheet.proofs.Opened.{opened_first}
use Rattle.groups_sheet.proofs.program.print_passed.Goals as goal

pub slice_bounds-numbers-end : goal.slice_bounds-numbers-end
slice_bounds-numbers-end c =
    let rows = rows_few c.args.file.now c.args.trailer (opened_first c.args.file.now c.args.trailer c.requires) in let bodies = bodies_few c.args.file.now c.args.trailer (opened_first c.args.file.now c.args.trailer c.requires) in omega arith

pub slice_bounds-print_bench-end : goal.slice_bounds-print_bench-end
slice_bounds-print_bench-end c =
    let rows = rows_few c.args.file.now c.args.trailer (opened_first c.args.file.now c.args.trailer c.requires) in let bodies = bodies_few c.args.file.now c.args.trailer (opened_first c.args.file.now c.args.trailer c.requires) in sym (length-take-le _ _ (omega arith))

pub slice_bounds-words-end : goal.slice_bounds-words-end
slice_bounds-words-end c =
    let rows = rows_few c.args.file.now c.args.trailer (opened_first c.args.file.now c.args.trailer c.requires) in let bodies = bodies_few c.args.file.now c.args.trailer (opened_first c.args.file.now c.args.trailer c.requires) in omega arith

pub slice_bounds-print_bench-end-2 : goal.slice_bounds-print_bench-end-2
slice_bounds-print_bench-end-2 c =
    let rows = rows_few c.args.file.now c.args.trailer (opened_first c.args.file.now c.args.trailer c.requires) in let bodies = bodies_few c.args.file.now c.args.trailer (opened_first c.args.file.now c.args.trailer c.requires) in sym (length-take-le _ _ (omega arith))

pub slice_bounds-masses-end : goal.slice_bounds-masses-end
slice_bounds-masses-end c =
    let rows = rows_few c.args.file.now c.args.trailer (opened_first c.args.file.now c.args.trailer c.requires) in let bodies = bodies_few c.args.file.now c.args.trailer (opened_first c.args.file.now c.args.trailer c.requires) in omega arith

pub slice_bounds-print_bench-end-3 : goal.slice_bounds-print_bench-end-3
slice_bounds-print_bench-end-3 c =
    let rows = rows_few c.args.file.now c.args.trailer (opened_first c.args.file.now c.args.trailer c.requires) in let bodies = bodies_few c.args.file.now c.args.trailer (opened_first c.args.file.now c.args.trailer c.requires) in sym (length-take-le _ _ (omega arith))

pub slice_bounds-centres-end : goal.slice_bounds-centres-end
slice_bounds-centres-end c =
    let rows = rows_few c.args.file.now c.args.trailer (opened_first c.args.file.now c.args.trailer c.requires) in let bodies = bodies_few c.args.file.now c.args.trailer (opened_first c.args.file.now c.args.trailer c.requires) in omega arith

pub slice_bounds-print_bench-end-4 : goal.slice_bounds-print_bench-end-4
slice_bounds-print_bench-end-4 c =
    let rows = rows_few c.args.file.now c.args.trailer (opened_first c.args.file.now c.args.trailer c.requires) in let bodies = bodies_few c.args.file.now c.args.trailer (opened_first c.args.file.now c.args.trailer c.requires) in sym (length-take-le _ _ (omega arith))

pub slice_bounds-groups-end : goal.slice_bounds-groups-end
slice_bounds-groups-end c =
    let rows = rows_few c.args.file.now c.args.trailer (opened_first c.args.file.now c.args.trailer c.requires) in let bodies = bodies_few c.args.file.now c.args.trailer (opened_first c.args.file.now c.args.trailer c.requires) in omega arith

pub slice_bounds-print_bench-end-5 : goal.slice_bounds-print_bench-end-5
slice_bounds-print_bench-end-5 c =
    let rows = rows_few c.args.file.now c.args.trailer (opened_first c.args.file.now c.args.trailer c.requires) in let bodies = bodies_few c.args.file.now c.args.trailer (opened_first c.args.file.now c.args.trailer c.requires) in sym (length-take-le _ _ (omega arith))

pub print_bench-requires : goal.print_bench-requires
print_bench-requires c =
    let rows = rows_few c.args.file.now c.args.trailer (opened_first c.args.file.now c.args.trailer c.requires) in let bodies = bodies_few c.args.file.now c.args.trailer (opened_first c.args.file.now c.args.trailer c.requires) in record { file_value = c.requires; bench_room = record { few_rows = rows; few_bodies = bodies; mode_known = mode_small c.args.file.now c.args.trailer (opened_first c.args.file.now c.args.trailer c.requires); numbers_long = length-take-le _ _ (omega arith); words_long = length-take-le _ _ (omega arith); masses_long = length-take-le _ _ (omega arith); centres_long = length-take-le _ _ (omega arith); groups_long = length-take-le _ _ (omega arith) } }
