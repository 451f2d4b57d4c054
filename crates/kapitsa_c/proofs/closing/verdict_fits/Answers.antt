-- `kapitsa_c::closing::verdict_fits` meets its contract. Assumes nothing.
use mathlib.Core.Path.{refl}
use Rattle.kapitsa_c.specs.Closing.{verdict_fits}
use Rattle.kapitsa_c.proofs.closing.verdict_fits.Goals as goal

pub returns : goal.returns
unfolding verdict_fits
returns c =
    refl
