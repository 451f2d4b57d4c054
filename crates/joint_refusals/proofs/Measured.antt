-- A tolerance that 26 lets pass is finite. Assumes nothing.
use mathlib.Core.Path.{◌≡◌, sym, subst}
use mathlib.Core.Bool.{true}
use lib.Dec.{T}
use lib.Ieee.{Float, le}
use lib.Ieee.Scale.{finite}
use Rattle.loops.specs.Cleared.{plus_zero}
use Rattle.loops.proofs.Both.{both}
use Rattle.joint_refusals.specs.Tolerances.{tolerance_fits}

pub fitting_finite : (x : Float) → tolerance_fits x ≡ true → T (finite x)
unfolding tolerance_fits
fitting_finite x h = subst T (sym (both (le plus_zero x) (finite x) h).1) tt
