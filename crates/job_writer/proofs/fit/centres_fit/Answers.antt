-- `job_writer::fit::centres_fit` meets its contract. Assumes nothing.
use Rattle.job_writer.specs.Refusals.{centres_fit}
use Rattle.job_writer.proofs.Zero.{all_every}
use Rattle.job_writer.proofs.fit.centres_fit.Goals as goal

pub returns : goal.returns
unfolding centres_fit
returns c = rw (c.all_zero-zero.ensures, all_every)
