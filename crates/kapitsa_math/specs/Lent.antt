-- A vector in a lent slice of doubles, from `at` on: three in a row.
use Rattle.std.specs.Prelude.{ℕ, ◌+◌, List, get_or, set, Float}
use Rattle.std.specs.Float.{nan}
use Rattle.kapitsa_math.specs.declared.vector.Vec3.{Vec3}

unfoldable pub vec_of : List Float → ℕ → Vec3
vec_of l at = record { x = get_or l at nan; y = get_or l (at + 1) nan; z = get_or l (at + 2) nan }

unfoldable pub put_vec_of : List Float → ℕ → Vec3 → List Float
put_vec_of l at v = set (set (set l at v.x) (at + 1) v.y) (at + 2) v.z

-- the same at every second place: between its numbers there is room for another
unfoldable pub spread_of : List Float → ℕ → Vec3
spread_of l at = record { x = get_or l at nan; y = get_or l (at + 2) nan; z = get_or l (at + 4) nan }

unfoldable pub put_spread_of : List Float → ℕ → Vec3 → List Float
put_spread_of l at v = set (set (set l at v.x) (at + 2) v.y) (at + 4) v.z
