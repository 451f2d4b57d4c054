-- `job_file::reader::read_rows` meets its contract: the reader is of the section, and the rows before the one where it stands are read. Assumes nothing.
use Rattle.std.proofs.Common.{arith}
use Rattle.job_file.proofs.Walking.{numbers_next, words_next, all_read}
use Rattle.job_file.proofs.reader.read_rows.Goals as goal

pub loop-r-preserved : goal.loop-r-preserved
loop-r-preserved c =
    let i = c.loop-r.invariant in
    let row = rw (i.of_file, i.of_offset) at c.row_here.ensures in
    rw c.next_row-r.ensures
    (record {
      of_file = i.of_file;
      of_offset = i.of_offset;
      of_rows = i.of_rows;
      within = omega arith;
      of_numbers = numbers_next _ _ _ _ (omega arith) i.of_numbers row.0;
      of_words = words_next _ _ _ _ (omega arith) i.of_words row.1;
    })

pub returns : goal.returns
returns c = all_read _ _ _ _ (omega arith) c.loop-r.invariant.of_numbers c.loop-r.invariant.of_words
