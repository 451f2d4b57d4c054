-- `joint_refusals::tolerances::tolerances_fit` meets its contract. Assumes nothing.
use Rattle.joint_refusals.specs.Tolerances.{passes26}
use Rattle.joint_refusals.proofs.tolerances.tolerances_fit.Goals as goal

pub returns : goal.returns
unfolding passes26
returns c =
    rw (c.tolerance_fits-2.ensures, c.tolerance_fits.ensures)
