-- `groups::mass::has_no_mass` meets its contract. Assumes nothing.
use lib.Ieee.{eq}
use Rattle.groups.specs.Together.{massless}
use Rattle.groups.proofs.mass.has_no_mass.Goals as goal

pub returns : goal.returns
unfolding eq massless
returns c = rw (c.is_zero.ensures, c.is_zero-2.ensures, c.is_zero-3.ensures)
