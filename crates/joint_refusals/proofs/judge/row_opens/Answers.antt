-- `joint_refusals::judge::row_opens` meets its contract. Assumes nothing.
use mathlib.Core.Path.{refl}
use lib.Ieee.{nan_bits}
use borrow.Author.Rules.{rules}
use Rattle.joint_refusals.specs.Refusals.{opens_of}
use Rattle.joint_refusals.proofs.judge.row_opens.Goals as goal

pub float_from_bits-infinity : goal.float_from_bits-infinity
unfolding opens_of nan_bits
float_from_bits-infinity c =
    search rules

pub returns : goal.returns
unfolding opens_of nan_bits
returns c =
    refl
