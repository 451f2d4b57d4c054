-- Document 02 c: the scale of a matrix, its numbers divided by the scale, and "not symmetric by the Rust's tolerance". In the order of Kapitsa's matrix.rs, Mat3::factor_spd.
use Rattle.std.specs.Prelude.{Bool, not, ◌&&◌, Float}
use Rattle.std.specs.Float.{binary64}
use Rattle.std.specs.Float.Ieee.{sub, div, lt, of_bits}
use Rattle.binary64.specs.Order.{absolute, larger}
use Rattle.loops.specs.Cleared.{plus_zero}
use Rattle.kapitsa_math.specs.Vector.{abs_of}
use Rattle.kapitsa_math.specs.declared.vector.Vec3.{Vec3}
use Rattle.kapitsa_math.specs.declared.matrix.Mat3.{Mat3}

-- the largest of three sizes and of `least`: "scale = scale.max(value.abs())"
unfoldable pub largest_of : Vec3 → Float → Float
largest_of v least = larger (larger (larger least (abs_of v).x) (abs_of v).y) (abs_of v).z

-- the largest size of the nine, by columns
unfoldable pub scale_of : Mat3 → Float
scale_of m = largest_of m.z (largest_of m.y (largest_of m.x plus_zero))

-- each number divided by the scale, with no reciprocal of it
unfoldable pub divided_vec_of : Vec3 → Float → Vec3
divided_vec_of v scale = record { x = div binary64 v.x scale; y = div binary64 v.y scale; z = div binary64 v.z scale }

unfoldable pub divided_of : Mat3 → Float → Mat3
divided_of m scale = record { x = divided_vec_of m.x scale; y = divided_vec_of m.y scale; z = divided_vec_of m.z scale }

-- "32.0 * f64::EPSILON", 2 ^ -47
abbrev pub symmetry_tolerance : Float
symmetry_tolerance = of_bits binary64 0x3d00_0000_0000_0000

-- their difference is not above the tolerance
unfoldable pub near_of : Float → Float → Bool
near_of a b = not (lt symmetry_tolerance (absolute (sub binary64 a b)))

-- each number below the diagonal beside the one above it: rows 1, 2, 2 and columns 0, 0, 1
unfoldable pub symmetric_of : Mat3 → Bool
symmetric_of n = (near_of n.x.y n.y.x && near_of n.x.z n.z.x) && near_of n.y.z n.z.y
