-- `kapitsa_c::solving::told_fits` meets its contract. Assumes nothing.
use mathlib.Core.Path.{refl}
use Rattle.kapitsa_c.specs.Solving.{told_fits}
use Rattle.kapitsa_c.proofs.solving.told_fits.Goals as goal

pub returns : goal.returns
unfolding told_fits
returns c =
    refl
