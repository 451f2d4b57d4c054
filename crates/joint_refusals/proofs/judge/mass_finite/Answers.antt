-- `joint_refusals::judge::mass_finite` meets its contract. Assumes nothing.
use Rattle.joint_refusals.specs.Refusals.{mass_finite_of}
use Rattle.joint_refusals.proofs.judge.mass_finite.Goals as goal

pub returns : goal.returns
unfolding mass_finite_of
returns c =
    rw (c.is_finite.ensures, c.is_finite-2.ensures)
