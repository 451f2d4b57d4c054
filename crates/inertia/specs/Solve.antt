-- Document 02 c, Cholesky3::solve of matrix.rs: "(the right-hand side divided by the scale, or the result, is not finite) the answer is 12". For any Cholesky3.
use Rattle.std.specs.Prelude.{ℕ, Float}
use Rattle.std.specs.Float.{binary64}
use Rattle.std.specs.Float.Ieee.{sub, mul, div}
use Rattle.loops.specs.Run.{Run, going, next}
use Rattle.loops.specs.Judge.{test}
use Rattle.kapitsa_math.specs.Vector.{is_finite_of}
use Rattle.kapitsa_math.specs.declared.vector.Vec3.{Vec3}
use Rattle.inertia.specs.Divided.{divided_vec_of}
use Rattle.inertia.specs.declared.triangle.Cholesky3.{Cholesky3}

-- a number less one product
unfoldable pub less_product : Float → Float → Float → Float
less_product value a b = sub binary64 value (mul binary64 a b)

-- forward, product by product, columns ascending
unfoldable pub forward_x : Cholesky3 → Vec3 → Float
forward_x f b = div binary64 b.x f.first.x

unfoldable pub forward_y : Cholesky3 → Vec3 → Float
forward_y f b = div binary64 (less_product b.y f.second.x (forward_x f b)) f.second.y

unfoldable pub forward_z : Cholesky3 → Vec3 → Float
forward_z f b = div binary64 (less_product (less_product b.z f.third.x (forward_x f b)) f.third.y (forward_y f b)) f.third.z

unfoldable pub forward_of : Cholesky3 → Vec3 → Vec3
forward_of f b = record { x = forward_x f b; y = forward_y f b; z = forward_z f b }

-- backward, likewise, the triangle read by columns
unfoldable pub backward_z : Cholesky3 → Vec3 → Float
backward_z f v = div binary64 v.z f.third.z

unfoldable pub backward_y : Cholesky3 → Vec3 → Float
backward_y f v = div binary64 (less_product v.y f.third.y (backward_z f v)) f.second.y

unfoldable pub backward_x : Cholesky3 → Vec3 → Float
backward_x f v = div binary64 (less_product (less_product v.x f.second.x (backward_y f v)) f.third.x (backward_z f v)) f.first.x

unfoldable pub backward_of : Cholesky3 → Vec3 → Vec3
backward_of f v = record { x = backward_x f v; y = backward_y f v; z = backward_z f v }

-- the two in turn
unfoldable pub solution_of : Cholesky3 → Vec3 → Vec3
solution_of f b = backward_of f (forward_of f b)

unfoldable pub solve_run : Cholesky3 → Vec3 → Run Vec3 ℕ
solve_run f rhs =
    next (test (is_finite_of rhs) 21) (λ _.
    next (test (is_finite_of (divided_vec_of rhs f.scale)) 12) (λ _.
    next (test (is_finite_of (solution_of f (divided_vec_of rhs f.scale))) 12) (λ _.
    going (solution_of f (divided_vec_of rhs f.scale)))))
