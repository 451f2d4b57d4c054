-- `job_writer::fit::head_fits` meets its contract. Assumes nothing.
use Rattle.job_writer.specs.Refusals.{head_fits}
use Rattle.job_writer.proofs.fit.head_fits.Goals as goal

pub returns : goal.returns
unfolding head_fits
returns c =
    rw c.counts_fit-counts.ensures
