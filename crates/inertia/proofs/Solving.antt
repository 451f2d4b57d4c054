-- The ways through `solve`. Assumes nothing.
use mathlib.Core.Path.{◌≡◌, sym, ap, ◌∙◌}
use mathlib.Core.Bool.{Bool, true, false, not}
use Rattle.loops.specs.Run.{going, ended}
use Rattle.loops.proofs.Judge.{test_pass, test_fail}
use Rattle.kapitsa_math.specs.Vector.{is_finite_of}
use Rattle.kapitsa_math.specs.declared.vector.Vec3.{Vec3}
use Rattle.inertia.specs.Divided.{divided_vec_of}
use Rattle.inertia.specs.Solve.{forward_of, backward_of, solution_of, solve_run}
use Rattle.inertia.specs.declared.triangle.Cholesky3.{Cholesky3}

module _ (f : Cholesky3) (rhs : Vec3) {r : Bool} (e : r ≡ is_finite_of rhs) where
  pub solve_21 : not r ≡ true → solve_run f rhs ≡ ended 21
  unfolding solve_run
  solve_21 h = test_fail _ 21 _ e h

  module _ (h : not r ≡ false) {b : Vec3} (d : b ≡ divided_vec_of rhs f.scale) {s : Bool} (p : s ≡ is_finite_of b) where
    divided : s ≡ is_finite_of (divided_vec_of rhs f.scale)
    divided = p ∙ ap is_finite_of d

    pub solve_divided : not s ≡ true → solve_run f rhs ≡ ended 12
    unfolding solve_run
    solve_divided k = test_pass _ 21 _ e h (test_fail _ 12 _ divided k)

    module _ (k : not s ≡ false) {u v : Vec3} (q : u ≡ forward_of f b) (w : v ≡ backward_of f u) {t : Bool} (l : t ≡ is_finite_of v) where
      solved : v ≡ solution_of f (divided_vec_of rhs f.scale)
      unfolding solution_of
      solved = rw (w, q, d)

      result : t ≡ is_finite_of (solution_of f (divided_vec_of rhs f.scale))
      result = l ∙ ap is_finite_of solved

      pub solve_result : not t ≡ true → solve_run f rhs ≡ ended 12
      unfolding solve_run
      solve_result g = test_pass _ 21 _ e h (test_pass _ 12 _ divided k (test_fail _ 12 _ result g))

      pub solve_done : not t ≡ false → solve_run f rhs ≡ going v
      unfolding solve_run
      solve_done g = test_pass _ 21 _ e h (test_pass _ 12 _ divided k (test_pass _ 12 _ result g (ap going (sym solved))))
