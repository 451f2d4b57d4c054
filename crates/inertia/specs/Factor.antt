-- Document 02 c, factor_spd: "Errors: 21, a number is not finite; 22, not symmetric by the Rust's tolerance; 23, not positive definite; judged in this order".
use Rattle.std.specs.Prelude.{ℕ, Bool, not, List, [], ◌∷◌, Float}
use Rattle.std.specs.Float.Ieee.{eq}
use Rattle.loops.specs.Run.{Run, next}
use Rattle.loops.specs.Judge.{judge}
use Rattle.loops.specs.Cleared.{plus_zero}
use Rattle.kapitsa_math.specs.Matrix.{finite_columns_of}
use Rattle.kapitsa_math.specs.declared.matrix.Mat3.{Mat3}
use Rattle.inertia.specs.Divided.{scale_of, divided_of, symmetric_of}
use Rattle.inertia.specs.Triangle.{triangle_run}
use Rattle.inertia.specs.declared.triangle.Cholesky3.{Cholesky3}

-- the matrix of zeros has no scale to divide by: "if scale == 0.0"
unfoldable pub has_scale : Float → Bool
has_scale scale = not (eq scale plus_zero)

-- what is judged before the pivots
unfoldable pub matrix_tests : Mat3 → List (ℕ × Bool)
matrix_tests m = (21, finite_columns_of m) ∷ (22, symmetric_of (divided_of m (scale_of m))) ∷ (23, has_scale (scale_of m)) ∷ []

unfoldable pub factor_run : Mat3 → Run Cholesky3 ℕ
factor_run m = next (judge (matrix_tests m)) (λ _. triangle_run (divided_of m (scale_of m)) (scale_of m))
