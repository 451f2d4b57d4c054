-- `job_writer::fit::lengths_fit` meets its contract. Assumes nothing.
use Rattle.job_writer.specs.Refusals.{lengths_fit}
use Rattle.job_writer.proofs.fit.lengths_fit.Goals as goal

pub returns : goal.returns
unfolding lengths_fit
returns c =
    rw (← c.file_length-bytes.ensures)
