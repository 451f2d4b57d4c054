-- `job_sheet::sheet::write_passed` meets its contract. Assumes nothing.
use mathlib.Core.Path.{sym}
use native.Mathlib.Omega.{arith}
use lib.Seq.{length-take-le}
use Rattle.job_sheet.proofs.Ways.{rows_few, bodies_few, mode_small}
use Rattle.job_sheet.proofs.sheet.write_passed.Goals as goal

pub overflow_mul-row_numbers : goal.overflow_mul-row_numbers
overflow_mul-row_numbers c =
    omega (arith, rows_few c.args.file.now c.args.trailer c.requires.file_value, bodies_few c.args.file.now c.args.trailer c.requires.file_value)

pub overflow_mul-row_words : goal.overflow_mul-row_words
overflow_mul-row_words c =
    omega (arith, rows_few c.args.file.now c.args.trailer c.requires.file_value, bodies_few c.args.file.now c.args.trailer c.requires.file_value)

pub overflow_mul-mass_numbers : goal.overflow_mul-mass_numbers
overflow_mul-mass_numbers c =
    omega (arith, rows_few c.args.file.now c.args.trailer c.requires.file_value, bodies_few c.args.file.now c.args.trailer c.requires.file_value)

pub overflow_mul-body_numbers : goal.overflow_mul-body_numbers
overflow_mul-body_numbers c =
    omega (arith, rows_few c.args.file.now c.args.trailer c.requires.file_value, bodies_few c.args.file.now c.args.trailer c.requires.file_value)

pub overflow_mul-centre_numbers : goal.overflow_mul-centre_numbers
overflow_mul-centre_numbers c =
    omega (arith, rows_few c.args.file.now c.args.trailer c.requires.file_value, bodies_few c.args.file.now c.args.trailer c.requires.file_value)

pub slice_bounds-numbers-end : goal.slice_bounds-numbers-end
slice_bounds-numbers-end c =
    omega (arith, rows_few c.args.file.now c.args.trailer c.requires.file_value, bodies_few c.args.file.now c.args.trailer c.requires.file_value)

pub slice_bounds-write_file-end : goal.slice_bounds-write_file-end
slice_bounds-write_file-end c =
    sym (length-take-le _ _ (omega (arith, rows_few c.args.file.now c.args.trailer c.requires.file_value, bodies_few c.args.file.now c.args.trailer c.requires.file_value)))

pub slice_bounds-words-end : goal.slice_bounds-words-end
slice_bounds-words-end c =
    omega (arith, rows_few c.args.file.now c.args.trailer c.requires.file_value, bodies_few c.args.file.now c.args.trailer c.requires.file_value)

pub slice_bounds-write_file-end-2 : goal.slice_bounds-write_file-end-2
slice_bounds-write_file-end-2 c =
    sym (length-take-le _ _ (omega (arith, rows_few c.args.file.now c.args.trailer c.requires.file_value, bodies_few c.args.file.now c.args.trailer c.requires.file_value)))

pub slice_bounds-masses-end : goal.slice_bounds-masses-end
slice_bounds-masses-end c =
    omega (arith, rows_few c.args.file.now c.args.trailer c.requires.file_value, bodies_few c.args.file.now c.args.trailer c.requires.file_value)

pub slice_bounds-write_file-end-3 : goal.slice_bounds-write_file-end-3
slice_bounds-write_file-end-3 c =
    sym (length-take-le _ _ (omega (arith, rows_few c.args.file.now c.args.trailer c.requires.file_value, bodies_few c.args.file.now c.args.trailer c.requires.file_value)))

pub slice_bounds-centres-end : goal.slice_bounds-centres-end
slice_bounds-centres-end c =
    omega (arith, rows_few c.args.file.now c.args.trailer c.requires.file_value, bodies_few c.args.file.now c.args.trailer c.requires.file_value)

pub slice_bounds-write_file-end-4 : goal.slice_bounds-write_file-end-4
slice_bounds-write_file-end-4 c =
    sym (length-take-le _ _ (omega (arith, rows_few c.args.file.now c.args.trailer c.requires.file_value, bodies_few c.args.file.now c.args.trailer c.requires.file_value)))

pub slice_bounds-solution-end : goal.slice_bounds-solution-end
slice_bounds-solution-end c =
    omega (arith, rows_few c.args.file.now c.args.trailer c.requires.file_value, bodies_few c.args.file.now c.args.trailer c.requires.file_value)

pub slice_bounds-write_file-end-5 : goal.slice_bounds-write_file-end-5
slice_bounds-write_file-end-5 c =
    sym (length-take-le _ _ (omega (arith, rows_few c.args.file.now c.args.trailer c.requires.file_value, bodies_few c.args.file.now c.args.trailer c.requires.file_value)))

pub slice_bounds-impulses-end : goal.slice_bounds-impulses-end
slice_bounds-impulses-end c =
    omega (arith, rows_few c.args.file.now c.args.trailer c.requires.file_value, bodies_few c.args.file.now c.args.trailer c.requires.file_value)

pub slice_bounds-write_file-end-6 : goal.slice_bounds-write_file-end-6
slice_bounds-write_file-end-6 c =
    sym (length-take-le _ _ (omega (arith, rows_few c.args.file.now c.args.trailer c.requires.file_value, bodies_few c.args.file.now c.args.trailer c.requires.file_value)))

pub slice_bounds-new_centres-end : goal.slice_bounds-new_centres-end
slice_bounds-new_centres-end c =
    omega (arith, rows_few c.args.file.now c.args.trailer c.requires.file_value, bodies_few c.args.file.now c.args.trailer c.requires.file_value)

pub slice_bounds-write_file-end-7 : goal.slice_bounds-write_file-end-7
slice_bounds-write_file-end-7 c =
    sym (length-take-le _ _ (omega (arith, rows_few c.args.file.now c.args.trailer c.requires.file_value, bodies_few c.args.file.now c.args.trailer c.requires.file_value)))

pub write_file-requires : goal.write_file-requires
write_file-requires c =
    let file = c.args.file.now in
    let trailer = c.args.trailer in
    let passed = c.requires.file_value in
    let rows = rows_few file trailer passed in
    let bodies = bodies_few file trailer passed in record {
      file_value = passed;
      job_room = record {
        few_rows = rows;
        few_bodies = bodies;
        mode_known = mode_small file trailer passed;
        numbers_long = length-take-le _ _ (omega arith);
        words_long = length-take-le _ _ (omega arith);
        masses_long = length-take-le _ _ (omega arith);
        centres_long = length-take-le _ _ (omega arith);
        solution_long = length-take-le _ _ (omega arith);
        impulses_long = length-take-le _ _ (omega arith);
        new_centres_long = length-take-le _ _ (omega arith);
      };
      in_bounds = c.requires.in_bounds;
    }

pub returns : goal.returns
returns c =
    c.write_file.ensures
