-- The lower triangle of the divided numbers: matrix.rs, Mat3::factor_spd, rows downward and columns ascending.
-- Document 02 c: "the triangle kept as three rows of three", "the inner sum begins at +0.0".
use Rattle.std.specs.Prelude.{ℕ, Bool, not, ◌&&◌, Float}
use Rattle.std.specs.Float.{binary64}
use Rattle.std.specs.Float.Ieee.{add, sub, mul, div, le}
use Rattle.std.specs.Float.Ieee.Scale.{finite}
use Rattle.loops.specs.Run.{Run, going, next}
use Rattle.loops.specs.Judge.{test}
use Rattle.loops.specs.Cleared.{plus_zero}
use Rattle.binary64.specs.SquareRoot.{square_root}
use Rattle.kapitsa_math.specs.declared.vector.Vec3.{Vec3}
use Rattle.kapitsa_math.specs.declared.matrix.Mat3.{Mat3}
use Rattle.inertia.specs.declared.triangle.Cholesky3.{Cholesky3}

-- "23, not positive definite": a pivot is finite and not at most 0.0
unfoldable pub passes_pivot : Float → Bool
passes_pivot value = finite value && not (le value plus_zero)

-- such a pivot's root, correctly rounded
unfoldable pub pivot_run : Float → Run Float ℕ
pivot_run value = next (test (passes_pivot value) 23) (λ _. going (square_root binary64 value))

-- a number, the sum of products taken from it once
unfoldable pub less_sum : Float → Float → Float
less_sum value sum = sub binary64 value sum

-- the sum of one product and of two, from +0.0
unfoldable pub sum_of_one : Float → Float → Float
sum_of_one a b = add binary64 plus_zero (mul binary64 a b)

unfoldable pub sum_of_two : Float → Float → Float → Float → Float
sum_of_two a b c d = add binary64 (sum_of_one a b) (mul binary64 c d)

-- row 0: the pivot
unfoldable pub first_run : Mat3 → Run Vec3 ℕ
first_run n = next (pivot_run (less_sum n.x.x plus_zero)) (λ p. going record { x = p; y = plus_zero; z = plus_zero })

-- row 1: a quotient, the pivot
unfoldable pub second_x : Mat3 → Vec3 → Float
second_x n first = div binary64 (less_sum n.x.y plus_zero) first.x

unfoldable pub second_pivot : Mat3 → Vec3 → Float
second_pivot n first = less_sum n.y.y (sum_of_one (second_x n first) (second_x n first))

unfoldable pub second_run : Mat3 → Vec3 → Run Vec3 ℕ
second_run n first = next (pivot_run (second_pivot n first)) (λ p. going record { x = second_x n first; y = p; z = plus_zero })

-- row 2: two quotients, the pivot
unfoldable pub third_x : Mat3 → Vec3 → Float
third_x n first = div binary64 (less_sum n.x.z plus_zero) first.x

unfoldable pub third_y : Mat3 → Vec3 → Vec3 → Float
third_y n first second = div binary64 (less_sum n.y.z (sum_of_one (third_x n first) second.x)) second.y

unfoldable pub third_pivot : Mat3 → Vec3 → Vec3 → Float
third_pivot n first second = less_sum n.z.z (sum_of_two (third_x n first) (third_x n first) (third_y n first second) (third_y n first second))

unfoldable pub third_run : Mat3 → Vec3 → Vec3 → Run Vec3 ℕ
third_run n first second = next (pivot_run (third_pivot n first second)) (λ p. going record { x = third_x n first; y = third_y n first second; z = p })

-- the three rows, and the scale beside them
unfoldable pub triangle_run : Mat3 → Float → Run Cholesky3 ℕ
triangle_run n scale = next (first_run n) (λ a. next (second_run n a) (λ b. next (third_run n a b) (λ c. going record { first = a; second = b; third = c; scale = scale })))
