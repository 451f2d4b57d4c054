-- What an accepted factor is, whatever the matrix was: its pivots are above zero, its numbers are finite, and so is its scale.
use Rattle.std.specs.Prelude.{◌≡◌, T, Float, Option, Some, Result, Ok}
use Rattle.std.specs.Float.Ieee.Scale.{finite}
use Rattle.std.specs.Float.Ieee.Positive.{positive}
use Rattle.loops.specs.Cleared.{plus_zero}
use Rattle.kapitsa_math.specs.Vector.{is_finite_of}
use Rattle.kapitsa_math.specs.declared.vector.Vec3.{Vec3}
use Rattle.inertia.specs.declared.triangle.Cholesky3.{Cholesky3}
use Rattle.inertia.specs.declared.triangle.CholeskyError.{CholeskyError}

-- ---- the factor
pub record TriangleMeaning (f : Cholesky3) : Type 0 where
  pub pivots : T (positive f.first.x) × T (positive f.second.y) × T (positive f.third.z)  -- finite and above zero
  pub finite : T (is_finite_of f.first) × T (is_finite_of f.second) × T (is_finite_of f.third)
  pub lower : (f.first.y ≡ plus_zero) × (f.first.z ≡ plus_zero) × (f.second.z ≡ plus_zero)

pub record CholeskyMeaning (f : Cholesky3) : Type 0 where
  pub triangle : TriangleMeaning f
  pub scaled : T (positive f.scale)

pub record FactorMeaning (r : Result Cholesky3 CholeskyError) : Type 0 where
  pub accepted : (f : Cholesky3) → r ≡ Ok f → CholeskyMeaning f

-- ---- the same of its parts
pub record TriangleTells (r : Result Cholesky3 CholeskyError) : Type 0 where
  pub accepted : (f : Cholesky3) → r ≡ Ok f → TriangleMeaning f

-- a pivot is finite, and its root p above zero
pub record PivotTells (value : Float) (r : Option Float) : Type 0 where
  pub accepted : (p : Float) → r ≡ Some p → T (finite value) × T (positive p)

pub record FirstMeaning (row : Vec3) : Type 0 where
  pub pivot : T (positive row.x)
  pub above : (row.y ≡ plus_zero) × (row.z ≡ plus_zero)

pub record SecondMeaning (row : Vec3) : Type 0 where
  pub left : T (finite row.x)
  pub pivot : T (positive row.y)
  pub above : row.z ≡ plus_zero

pub record ThirdMeaning (row : Vec3) : Type 0 where
  pub left : T (finite row.x) × T (finite row.y)
  pub pivot : T (positive row.z)

pub record RowTells (Means : Vec3 → Type 0) (r : Option Vec3) : Type 0 where
  pub accepted : (row : Vec3) → r ≡ Some row → Means row
