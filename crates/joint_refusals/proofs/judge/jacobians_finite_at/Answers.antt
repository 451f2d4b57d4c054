-- `joint_refusals::judge::jacobians_finite_at` meets its contract. Assumes nothing.
use Rattle.kapitsa_joint.specs.Row.{row_of}
use Rattle.joint_refusals.specs.Refusals.{jacobians_finite_of}
use Rattle.joint_refusals.proofs.judge.jacobians_finite_at.Goals as goal

pub returns : goal.returns
unfolding jacobians_finite_of row_of
returns c =
    λ words. rw (c.vec_finite_at.ensures, c.vec_finite_at-2.ensures, c.vec_finite_at-3.ensures, c.vec_finite_at-4.ensures, c.vec_finite_at-5.ensures)
