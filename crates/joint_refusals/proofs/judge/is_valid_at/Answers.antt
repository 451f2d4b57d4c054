-- `joint_refusals::judge::is_valid_at` meets its contract. Assumes nothing.
use Rattle.kapitsa_joint.specs.Row.{row_of}
use Rattle.joint_refusals.specs.Refusals.{is_valid_of}
use Rattle.joint_refusals.proofs.judge.is_valid_at.Goals as goal

pub returns : goal.returns
unfolding is_valid_of row_of
returns c =
    rw (c.bodies_below.ensures, c.jacobians_finite_at.ensures c.args.words.now, c.scalars_finite.ensures, c.scalars_in_range.ensures, c.words_at.ensures, c.scalars_at-scalars.ensures)
