-- The ways through `columns` and `inverse_spd`. Assumes nothing.
use mathlib.Core.Path.{◌≡◌, ap, ◌∙◌}
use Rattle.std.specs.Prelude.{Result, Ok}
use Rattle.loops.proofs.Loop.{on_going}
use Rattle.kapitsa_math.specs.declared.matrix.Mat3.{Mat3}
use Rattle.inertia.specs.Factor.{factor_run}
use Rattle.inertia.specs.Inverse.{columns_run, inverse_run}
use Rattle.inertia.specs.Answers.{cholesky_out}
use Rattle.inertia.specs.declared.triangle.Cholesky3.{Cholesky3}
use Rattle.inertia.specs.declared.triangle.CholeskyError.{CholeskyError}

module _ (m : Mat3) {r : Result Cholesky3 CholeskyError} (e : factor_run m ≡ cholesky_out r) where
  pub inverse_done : {f : Cholesky3} (s : Result Mat3 CholeskyError) → r ≡ Ok f → columns_run f ≡ cholesky_out s → inverse_run m ≡ cholesky_out s
  unfolding inverse_run
  inverse_done s h k = on_going _ _ _ (e ∙ ap cholesky_out h) ∙ k
