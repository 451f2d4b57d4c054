-- `joint_refusals::counts::table_counts_fit` meets its contract. Assumes nothing.
use mathlib.Core.Path.{refl}
use Rattle.joint_refusals.proofs.counts.table_counts_fit.Goals as goal

pub returns : goal.returns
returns c =
    refl
