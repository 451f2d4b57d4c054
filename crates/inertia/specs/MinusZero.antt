-- What an inverse is, whatever the matrix was: its nine numbers are finite, and none of them is -0.0. So a sum that begins at -0.0 in place of +0.0 can't show in it.
use Rattle.std.specs.Prelude.{zero, suc, Bool, true, false, ◌≡◌, T, Float, Result, Ok}
use Rattle.std.specs.Float.{nan, inf, fin}
use Rattle.kapitsa_math.specs.Matrix.{finite_columns_of}
use Rattle.kapitsa_math.specs.declared.vector.Vec3.{Vec3}
use Rattle.kapitsa_math.specs.declared.matrix.Mat3.{Mat3}
use Rattle.inertia.specs.declared.triangle.CholeskyError.{CholeskyError}

unfoldable pub no_minus_zero : Float → Bool
no_minus_zero nan = true
no_minus_zero (inf s) = true
no_minus_zero (fin false m e) = true
no_minus_zero (fin true zero e) = false
no_minus_zero (fin true (suc m) e) = true

pub record NoMinusZeros (v : Vec3) : Type 0 where
  pub x : T (no_minus_zero v.x)
  pub y : T (no_minus_zero v.y)
  pub z : T (no_minus_zero v.z)

pub record MatrixMeaning (m : Mat3) : Type 0 where
  pub finite : T (finite_columns_of m)
  pub x : NoMinusZeros m.x
  pub y : NoMinusZeros m.y
  pub z : NoMinusZeros m.z

pub record InverseMeaning (r : Result Mat3 CholeskyError) : Type 0 where
  pub accepted : (m : Mat3) → r ≡ Ok m → MatrixMeaning m
