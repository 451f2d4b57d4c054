-- `job_writer::fit::limits_fit` meets its contract. Assumes nothing.
use mathlib.Core.Path.{refl}
use Rattle.job_writer.specs.Refusals.{limits_fit}
use Rattle.job_writer.proofs.fit.limits_fit.Goals as goal

pub returns : goal.returns
unfolding limits_fit
returns c =
    refl
