-- `joint_refusals::judge::velocity_row_opens` meets its contract. Assumes nothing.
use mathlib.Core.Path.{refl}
use lib.Ieee.{nan_bits}
use borrow.Author.Rules.{rules}
use Rattle.joint_refusals.specs.Refusals.{velocity_opens_of}
use Rattle.joint_refusals.proofs.judge.velocity_row_opens.Goals as goal

pub float_from_bits-infinity : goal.float_from_bits-infinity
unfolding velocity_opens_of nan_bits
float_from_bits-infinity c =
    search rules

pub returns : goal.returns
unfolding velocity_opens_of nan_bits
returns c =
    refl
