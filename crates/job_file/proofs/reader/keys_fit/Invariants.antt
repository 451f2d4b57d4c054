-- `job_file::reader::keys_fit` meets its contract: the reader is of the section, and the rows before the one where it stands are judged. Assumes nothing.
use Rattle.std.proofs.Common.{◌-◌, ◌≡◌, ◌≤◌}
use Rattle.job_file.specs.Refusals.{keys_fit}
use Rattle.job_file.proofs.reader.keys_fit.Given as goal

abbrev pub invariant-loop-r : goal.invariant-loop-r
invariant-loop-r l = record {
  of_file : l.r.file.now ≡ l.file;
  of_offset : l.r.offset ≡ l.offset;
  of_rows : l.r.rows ≡ l.rows;
  within : l.r.row ≤ l.rows;
  judged : l.fit ≡ keys_fit l.file l.offset l.r.row;
}

abbrev pub decreases-loop-r : goal.decreases-loop-r
decreases-loop-r l = l.rows - l.r.row
