-- The Rust's checked forms, `result.is_finite().then_some(result)`: a result that is finite, made of finite numbers, or none.
use Rattle.std.specs.Prelude.{ℕ, ◌&&◌, ◌≡◌, Option, Some, None, Float}
use Rattle.std.specs.Float.Ieee.Scale.{finite}
use Rattle.loops.specs.Run.{Run, going, ended, check, next}
use Rattle.loops.specs.Judge.{test}
use Rattle.kapitsa_math.specs.Vector.{dot_of, is_finite_of}
use Rattle.kapitsa_math.specs.Matrix.{mul_vector_of, finite_columns_of}
use Rattle.kapitsa_math.specs.declared.vector.Vec3.{Vec3}
use Rattle.kapitsa_math.specs.declared.matrix.Mat3.{Mat3}

unfoldable pub checked_value_of : Float → Option Float
checked_value_of x = check (finite x) (Some x) None

-- vector.rs, Vec3::checked_dot
unfoldable pub checked_dot_of : Vec3 → Vec3 → Option Float
checked_dot_of v w = check (is_finite_of v && is_finite_of w) (checked_value_of (dot_of v w)) None

-- matrix.rs, Mat3::checked_mul_vector
unfoldable pub checked_mul_vector_of : Mat3 → Vec3 → Option Vec3
checked_mul_vector_of m v = check (finite_columns_of m && is_finite_of v) (let p = mul_vector_of m v in check (is_finite_of p) (Some p) None) None

-- ---- document 01's number of each answer. An overflow is the caller's refusal: "8. A row's diagonal overflows", "12. A pair value ... is not finite"
abbrev pub checked_out : {A : Type 0} → ℕ → Option A → Run A ℕ
checked_out number (Some x) = going x
checked_out number None = ended number

-- what an answer tells, whatever number its caller gives an overflow
pub record CheckedTells {A : Type 0} (run : ℕ → Run A ℕ) (answer : Option A) : Type 0 where
  pub told : (number : ℕ) → run number ≡ checked_out number answer

-- a number, a dot product and a matrix product, or the caller's refusal
unfoldable pub value_run : Float → ℕ → Run Float ℕ
value_run x number = next (test (finite x) number) (λ _. going x)

unfoldable pub dot_run : Vec3 → Vec3 → ℕ → Run Float ℕ
dot_run v w number = next (test (is_finite_of v && is_finite_of w) number) (λ _. value_run (dot_of v w) number)

unfoldable pub mul_vector_run : Mat3 → Vec3 → ℕ → Run Vec3 ℕ
mul_vector_run m v number = next (test (finite_columns_of m && is_finite_of v) number) (λ _. next (test (is_finite_of (mul_vector_of m v)) number) (λ _. going (mul_vector_of m v)))
