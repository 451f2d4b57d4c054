-- Matrices of doubles, by columns. Each operation rounds as IEEE 754 says, in the order of Kapitsa's matrix.rs.
use Rattle.std.specs.Prelude.{Bool, ◌&&◌}
use Rattle.kapitsa_math.specs.Vector.{add_of, scale_of, abs_of, is_finite_of}
use Rattle.kapitsa_math.specs.declared.vector.Vec3.{Vec3}
use Rattle.kapitsa_math.specs.declared.matrix.Mat3.{Mat3}

-- document 01, the closing check: "a matrix row likewise"; matrix.rs, Mul<Vec3> for Mat3
unfoldable pub mul_vector_of : Mat3 → Vec3 → Vec3
mul_vector_of m v = add_of (add_of (scale_of m.x v.x) (scale_of m.y v.y)) (scale_of m.z v.z)

unfoldable pub abs_columns_of : Mat3 → Mat3
abs_columns_of m = record { x = abs_of m.x; y = abs_of m.y; z = abs_of m.z }

unfoldable pub finite_columns_of : Mat3 → Bool
finite_columns_of m = (is_finite_of m.x && is_finite_of m.y) && is_finite_of m.z
