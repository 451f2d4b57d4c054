-- `joint_refusals::tolerances::tolerance_fits` meets its contract. Assumes nothing.
use borrow.Author.Rules.{rules}
use Rattle.joint_refusals.proofs.Bits.{fits_bits}
use Rattle.joint_refusals.proofs.tolerances.tolerance_fits.Goals as goal

pub returns : goal.returns
returns c =
    fits_bits _ (search rules) c.to_bits-bits.ensures.value
