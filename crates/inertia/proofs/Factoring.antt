-- The ways through `factor_spd`. Assumes nothing.
use Prim.Native.Nat.{ℕ}
use mathlib.Core.Path.{◌≡◌, refl, ap, ◌∙◌}
use mathlib.Core.Bool.{Bool, true, false, not}
use lib.Ieee.{Float, eq}
use Rattle.std.specs.Prelude.{Result}
use Rattle.loops.specs.Run.{ended}
use Rattle.loops.specs.Judge.{judge}
use Rattle.loops.specs.Cleared.{plus_zero}
use Rattle.loops.proofs.Loop.{on_going, on_ended}
use Rattle.loops.proofs.Judge.{test_pass, test_fail}
use Rattle.kapitsa_math.specs.Matrix.{finite_columns_of}
use Rattle.kapitsa_math.specs.declared.matrix.Mat3.{Mat3}
use Rattle.inertia.specs.Divided.{scale_of, divided_of, symmetric_of}
use Rattle.inertia.specs.Triangle.{triangle_run}
use Rattle.inertia.specs.Factor.{has_scale, matrix_tests, factor_run}
use Rattle.inertia.specs.Answers.{cholesky_out}
use Rattle.inertia.specs.declared.triangle.CholeskyError.{CholeskyError}
use Rattle.inertia.specs.declared.triangle.Cholesky3.{Cholesky3}

-- ---- the ways
module _ (m : Mat3) {r : Bool} (e : r ≡ finite_columns_of m) where
  ends : (b : Bool) (n : ℕ) → judge (matrix_tests m) ≡ ended n → factor_run m ≡ ended n
  unfolding factor_run
  ends b n h = on_ended _ _ _ h

  pub factor_21 : not r ≡ true → factor_run m ≡ ended 21
  unfolding matrix_tests judge
  factor_21 h = ends r 21 (test_fail _ 21 _ e h)

  module _ (h : not r ≡ false) {scale : Float} (p : scale ≡ scale_of m) {n : Mat3} (q : n ≡ divided_of m scale) {s : Bool} (f : s ≡ symmetric_of n) where
    symmetry : s ≡ symmetric_of (divided_of m (scale_of m))
    symmetry = f ∙ ap symmetric_of (q ∙ ap (divided_of m) p)

    pub factor_22 : not s ≡ true → factor_run m ≡ ended 22
    unfolding matrix_tests judge
    factor_22 k = ends r 22 (test_pass _ 21 _ e h (test_fail _ 22 _ symmetry k))

    module _ (k : not s ≡ false) where
      pub factor_23 : eq scale plus_zero ≡ true → factor_run m ≡ ended 23
      unfolding matrix_tests judge has_scale
      factor_23 l = ends r 23 (test_pass _ 21 _ e h (test_pass _ 22 _ symmetry k (test_fail _ 23 _ refl (rw (← p, l)))))

      pub factor_on : (a : Result Cholesky3 CholeskyError) → eq scale plus_zero ≡ false → triangle_run n scale ≡ cholesky_out a → factor_run m ≡ cholesky_out a
      unfolding factor_run matrix_tests judge has_scale
      factor_on a l g = on_going _ _ _ (test_pass _ 21 _ e h (test_pass _ 22 _ symmetry k (test_pass _ 23 _ refl (rw (← p, l)) refl))) ∙ rw (← p, ← q) g
