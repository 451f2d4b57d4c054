-- `joint_refusals::judge::scalars_in_range` meets its contract. Assumes nothing.
use mathlib.Core.Path.{refl}
use Rattle.joint_refusals.specs.Refusals.{scalars_in_range_of}
use Rattle.joint_refusals.proofs.judge.scalars_in_range.Goals as goal

pub returns : goal.returns
unfolding scalars_in_range_of
returns c =
    refl
