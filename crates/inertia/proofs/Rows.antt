-- The ways through the three rows and the triangle. Assumes nothing.
use mathlib.Core.Path.{◌≡◌, ap, ◌∙◌}
use lib.Ieee.{Float}
use Rattle.std.specs.Prelude.{Option, Some, None}
use Rattle.loops.specs.Run.{going, ended}
use Rattle.loops.specs.Cleared.{plus_zero}
use Rattle.loops.proofs.Loop.{on_going, on_ended}
use Rattle.kapitsa_math.specs.declared.vector.Vec3.{Vec3}
use Rattle.kapitsa_math.specs.declared.matrix.Mat3.{Mat3}
use Rattle.inertia.specs.Triangle.{pivot_run, less_sum, first_run, second_x, second_pivot, second_run, third_x, third_y, third_pivot, third_run, triangle_run}
use Rattle.inertia.specs.Answers.{accepted_out}

-- ---- a row: its pivot is accepted, or it is not
module _ (n : Mat3) {r : Option Float} (e : pivot_run (less_sum n.x.x plus_zero) ≡ accepted_out r) where
  pub first_done : {p : Float} → r ≡ Some p → first_run n ≡ going record { x = p; y = plus_zero; z = plus_zero }
  unfolding first_run
  first_done h = on_going _ _ _ (e ∙ ap accepted_out h)

  pub first_refused : r ≡ None → first_run n ≡ ended 23
  unfolding first_run
  first_refused h = on_ended _ _ _ (e ∙ ap accepted_out h)

module _ (n : Mat3) (first : Vec3) {r : Option Float} (e : pivot_run (second_pivot n first) ≡ accepted_out r) where
  pub second_done : {p : Float} → r ≡ Some p → second_run n first ≡ going record { x = second_x n first; y = p; z = plus_zero }
  unfolding second_run
  second_done h = on_going _ _ _ (e ∙ ap accepted_out h)

  pub second_refused : r ≡ None → second_run n first ≡ ended 23
  unfolding second_run
  second_refused h = on_ended _ _ _ (e ∙ ap accepted_out h)

module _ (n : Mat3) (first second : Vec3) {r : Option Float} (e : pivot_run (third_pivot n first second) ≡ accepted_out r) where
  pub third_done : {p : Float} → r ≡ Some p → third_run n first second ≡ going record { x = third_x n first; y = third_y n first second; z = p }
  unfolding third_run
  third_done h = on_going _ _ _ (e ∙ ap accepted_out h)

  pub third_refused : r ≡ None → third_run n first second ≡ ended 23
  unfolding third_run
  third_refused h = on_ended _ _ _ (e ∙ ap accepted_out h)

-- ---- the triangle: three rows are done, or one is not
module _ (n : Mat3) (scale : Float) {r : Option Vec3} (e : first_run n ≡ accepted_out r) where
  pub triangle_first : r ≡ None → triangle_run n scale ≡ ended 23
  unfolding triangle_run
  triangle_first h = on_ended _ _ _ (e ∙ ap accepted_out h)

  module _ {a : Vec3} (h : r ≡ Some a) {s : Option Vec3} (f : second_run n a ≡ accepted_out s) where
    pub triangle_second : s ≡ None → triangle_run n scale ≡ ended 23
    unfolding triangle_run
    triangle_second k = on_going _ _ _ (e ∙ ap accepted_out h) ∙ on_ended _ _ _ (f ∙ ap accepted_out k)

    module _ {b : Vec3} (k : s ≡ Some b) {t : Option Vec3} (g : third_run n a b ≡ accepted_out t) where
      pub triangle_third : t ≡ None → triangle_run n scale ≡ ended 23
      unfolding triangle_run
      triangle_third l = on_going _ _ _ (e ∙ ap accepted_out h) ∙ on_going _ _ _ (f ∙ ap accepted_out k) ∙ on_ended _ _ _ (g ∙ ap accepted_out l)

      pub triangle_done : {c : Vec3} → t ≡ Some c → triangle_run n scale ≡ going record { first = a; second = b; third = c; scale = scale }
      unfolding triangle_run
      triangle_done l = on_going _ _ _ (e ∙ ap accepted_out h) ∙ on_going _ _ _ (f ∙ ap accepted_out k) ∙ on_going _ _ _ (g ∙ ap accepted_out l)
