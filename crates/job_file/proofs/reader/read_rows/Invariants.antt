-- `job_file::reader::read_rows` meets its contract: the reader is of the section, and the rows before the one where it stands are read. Assumes nothing.
use Rattle.std.proofs.Common.{◌-◌, ◌≡◌, ◌≤◌}
use Rattle.job_file.proofs.Walking.{NumbersRead, WordsRead}
use Rattle.job_file.proofs.reader.read_rows.Given as goal

abbrev pub invariant-loop-r : goal.invariant-loop-r
invariant-loop-r l = record {
  of_file : l.r.file.now ≡ l.file;
  of_offset : l.r.offset ≡ l.offset;
  of_rows : l.r.rows ≡ l.rows;
  within : l.r.row ≤ l.rows;
  of_numbers : NumbersRead l.file l.offset l.rows l.r.row l.numbers;
  of_words : WordsRead l.file l.offset l.rows l.r.row l.words;
}

abbrev pub decreases-loop-r : goal.decreases-loop-r
decreases-loop-r l = l.rows - l.r.row
