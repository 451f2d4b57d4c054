-- `job_writer::parts::put_rows` meets its contract: the rows below i are written. Assumes nothing.
use Rattle.listing.proofs.Pieces.{Writing}
use Rattle.job_writer.specs.Written.{written_row}
use Rattle.job_writer.proofs.parts.put_rows.Given as goal

abbrev pub invariant-loop-i : goal.invariant-loop-i
invariant-loop-i l =
    Writing l.initial.out l.at (written_row l.numbers l.words) l.rows l.i l.out l.next
