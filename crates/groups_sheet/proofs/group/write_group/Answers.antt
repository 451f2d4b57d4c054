-- `groups_sheet::group::write_group` meets its contract. Assumes nothing.
use mathlib.Core.Path.{sym}
use native.Mathlib.Omega.{arith}
use lib.Seq.{length-take-le}
use Rattle.groups_sheet.proofs.Alone.{count_few}
use Rattle.groups_sheet.proofs.group.write_group.Goals as goal

pub overflow_mul-row_numbers : goal.overflow_mul-row_numbers
overflow_mul-row_numbers c =
    let few = count_few c.requires.bench_room c.args.groups.now c.args.g c.count_rows-count.ensures in let bodies = c.requires.bench_room.few_bodies in omega arith

pub overflow_mul-row_words : goal.overflow_mul-row_words
overflow_mul-row_words c =
    let few = count_few c.requires.bench_room c.args.groups.now c.args.g c.count_rows-count.ensures in let bodies = c.requires.bench_room.few_bodies in omega arith

pub overflow_cast-count : goal.overflow_cast-count
overflow_cast-count c =
    let few = count_few c.requires.bench_room c.args.groups.now c.args.g c.count_rows-count.ensures in let bodies = c.requires.bench_room.few_bodies in omega arith

pub slice_bounds-own_numbers-end : goal.slice_bounds-own_numbers-end
slice_bounds-own_numbers-end c =
    let few = count_few c.requires.bench_room c.args.groups.now c.args.g c.count_rows-count.ensures in let bodies = c.requires.bench_room.few_bodies in omega arith

pub slice_bounds-write_picked-end : goal.slice_bounds-write_picked-end
slice_bounds-write_picked-end c =
    let few = count_few c.requires.bench_room c.args.groups.now c.args.g c.count_rows-count.ensures in let bodies = c.requires.bench_room.few_bodies in sym (length-take-le _ _ (omega arith))

pub slice_bounds-own_words-end : goal.slice_bounds-own_words-end
slice_bounds-own_words-end c =
    let few = count_few c.requires.bench_room c.args.groups.now c.args.g c.count_rows-count.ensures in let bodies = c.requires.bench_room.few_bodies in omega arith

pub slice_bounds-write_picked-end-2 : goal.slice_bounds-write_picked-end-2
slice_bounds-write_picked-end-2 c =
    let few = count_few c.requires.bench_room c.args.groups.now c.args.g c.count_rows-count.ensures in let bodies = c.requires.bench_room.few_bodies in sym (length-take-le _ _ (omega arith))

pub slice_bounds-solution-end : goal.slice_bounds-solution-end
slice_bounds-solution-end c =
    let few = count_few c.requires.bench_room c.args.groups.now c.args.g c.count_rows-count.ensures in let bodies = c.requires.bench_room.few_bodies in omega arith

pub slice_bounds-write_picked-end-3 : goal.slice_bounds-write_picked-end-3
slice_bounds-write_picked-end-3 c =
    let few = count_few c.requires.bench_room c.args.groups.now c.args.g c.count_rows-count.ensures in let bodies = c.requires.bench_room.few_bodies in sym (length-take-le _ _ (omega arith))

pub write_picked-requires : goal.write_picked-requires
write_picked-requires c =
    let few = count_few c.requires.bench_room c.args.groups.now c.args.g c.count_rows-count.ensures in let bodies = c.requires.bench_room.few_bodies in record { bench_room = c.requires.bench_room; count_value = (c.count_rows-count.ensures, record { numbers_long = length-take-le _ _ (omega arith); words_long = length-take-le _ _ (omega arith); solution_long = length-take-le _ _ (omega arith); impulses_long = length-take-le _ _ (omega arith); new_centres_long = length-take-le _ _ (omega arith) }); in_bounds = c.requires.in_bounds }
