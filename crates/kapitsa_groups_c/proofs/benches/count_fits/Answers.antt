-- `kapitsa_groups_c::benches::count_fits` meets its contract. Assumes nothing.
use mathlib.Core.Path.{refl}
use Rattle.kapitsa_groups_c.specs.Benches.{count_fits}
use Rattle.kapitsa_groups_c.proofs.benches.count_fits.Goals as goal

pub returns : goal.returns
unfolding count_fits
returns c =
    refl
