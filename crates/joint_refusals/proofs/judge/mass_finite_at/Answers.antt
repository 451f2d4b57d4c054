-- `joint_refusals::judge::mass_finite_at` meets its contract. Assumes nothing.
use Rattle.joint_refusals.proofs.judge.mass_finite_at.Goals as goal

pub returns : goal.returns
returns c =
    rw (c.mass_finite.ensures, c.mass_at.ensures)
