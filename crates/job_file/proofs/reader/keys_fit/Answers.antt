-- `job_file::reader::keys_fit` meets its contract: the reader is of the section, and the rows before the one where it stands are judged. Assumes nothing.
use Rattle.std.proofs.Common.{arith, refl}
use Rattle.job_file.proofs.Walking.{keys_none, keys_next}
use Rattle.job_file.proofs.reader.keys_fit.Goals as goal

pub loop-r-init : goal.loop-r-init
loop-r-init c =
    rw c.reader_at-r.ensures
    (record { of_file = refl; of_offset = refl; of_rows = refl; within = omega arith; judged = keys_none _ _ })

pub loop-r-preserved : goal.loop-r-preserved
loop-r-preserved c =
    let i = c.loop-r.invariant in
    let here = rw (i.of_file, i.of_offset) at c.keys_here-fit.ensures in
    rw (c.next_row-r.ensures, i.judged)
    (record {
      of_file = i.of_file;
      of_offset = i.of_offset;
      of_rows = i.of_rows;
      within = omega arith;
      judged = keys_next _ _ _ here;
    })
