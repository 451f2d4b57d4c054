-- Taking the size of what is read of a list is reading the list of sizes. Assumes nothing.
use Prim.Native.Nat.{ℕ, ◌+◌, ◌*◌}
use mathlib.Core.Path.{◌≡◌}
use mathlib.Core.List.{List, map}
use lib.ListN.{get_or, get_or-map}
use lib.Ieee.{Float, nan}
use Rattle.binary64.specs.Order.{absolute}
use Rattle.kapitsa_math.specs.Lent.{vec_of}
use Rattle.kapitsa_math.specs.Vector.{abs_of}
use Rattle.kapitsa_math.specs.Matrix.{abs_columns_of}
use Rattle.kapitsa_joint.specs.Mass.{mass_of}
use Rattle.check_measure.specs.Verdict.{size_of_mass}

-- ---- a number of the list of sizes is the size of that number, also past the end
pub size_at : (l : List Float) (k : ℕ) → get_or (map absolute l) k nan ≡ absolute (get_or l k nan)
unfolding absolute
size_at l k = get_or-map absolute l k nan

pub vec_size : (l : List Float) (at : ℕ) → vec_of (map absolute l) at ≡ abs_of (vec_of l at)
unfolding vec_of abs_of
vec_size l at = rw (size_at l at, size_at l (at + 1), size_at l (at + 2))

pub mass_size : (l : List Float) (b : ℕ) → mass_of (map absolute l) b ≡ size_of_mass (mass_of l b)
unfolding mass_of size_of_mass abs_columns_of
mass_size l b = rw (size_at l (10 * b), vec_size l (10 * b + 1), vec_size l (10 * b + 4), vec_size l (10 * b + 7))
