-- `joint_refusals::counts::counts_fit` meets its contract. Assumes nothing.
use Rattle.joint_refusals.specs.Counts.{counts_fit}
use Rattle.joint_refusals.proofs.counts.counts_fit.Goals as goal

pub returns : goal.returns
unfolding counts_fit
returns c =
    rw c.table_counts_fit.ensures
