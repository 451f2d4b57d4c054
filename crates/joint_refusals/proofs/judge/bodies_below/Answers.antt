-- `joint_refusals::judge::bodies_below` meets its contract. Assumes nothing.
use mathlib.Core.Path.{refl}
use Rattle.joint_refusals.specs.Refusals.{bodies_below_of}
use Rattle.joint_refusals.proofs.judge.bodies_below.Goals as goal

pub returns : goal.returns
unfolding bodies_below_of
returns c =
    refl
