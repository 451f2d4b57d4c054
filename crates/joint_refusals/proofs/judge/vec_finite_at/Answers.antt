-- `joint_refusals::judge::vec_finite_at` meets its contract. Assumes nothing.
use Rattle.joint_refusals.proofs.judge.vec_finite_at.Goals as goal

pub returns : goal.returns
returns c =
    rw (c.is_finite.ensures, c.vec_at-v.ensures)
