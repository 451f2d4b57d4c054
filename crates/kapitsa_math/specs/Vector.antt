-- Vectors of doubles. Each operation rounds as IEEE 754 says, in the order of Kapitsa's vector.rs.
use Rattle.std.specs.Prelude.{Bool, ◌&&◌, Float}
use Rattle.std.specs.Float.{binary64}
use Rattle.std.specs.Float.Ieee.{add, mul, neg}
use Rattle.std.specs.Float.Ieee.Scale.{finite}
use Rattle.binary64.specs.Order.{absolute}
use Rattle.kapitsa_math.specs.declared.vector.Vec3.{Vec3}

-- document 01, the closing check: "dot is ((xx)+(yy))+(zz)"; vector.rs, Vec3::dot
unfoldable pub dot_of : Vec3 → Vec3 → Float
dot_of v w = add binary64 (add binary64 (mul binary64 v.x w.x) (mul binary64 v.y w.y)) (mul binary64 v.z w.z)

unfoldable pub add_of : Vec3 → Vec3 → Vec3
add_of v w = record { x = add binary64 v.x w.x; y = add binary64 v.y w.y; z = add binary64 v.z w.z }

unfoldable pub scale_of : Vec3 → Float → Vec3
scale_of v c = record { x = mul binary64 v.x c; y = mul binary64 v.y c; z = mul binary64 v.z c }

unfoldable pub negate_of : Vec3 → Vec3
negate_of v = record { x = neg v.x; y = neg v.y; z = neg v.z }

unfoldable pub abs_of : Vec3 → Vec3
abs_of v = record { x = absolute v.x; y = absolute v.y; z = absolute v.z }

unfoldable pub is_finite_of : Vec3 → Bool
is_finite_of v = (finite v.x && finite v.y) && finite v.z
