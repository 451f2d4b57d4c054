-- Document 02, k: "The Rust is the measure where all rules of a dimension agree": solve and check answer as by the two tolerances. Assumes nothing.
use Prim.Native.Nat.{ℕ, ◌<◌}
use mathlib.Core.Path.{◌≡◌, refl, sym, ◌∙◌}
use mathlib.Core.Bool.{Bool, true}
use lib.Ieee.{Float}
use Rattle.kapitsa_math.specs.declared.vector.Vec3.{Vec3}
use Rattle.kapitsa_joint.specs.Table.{Table}
use Rattle.kapitsa_joint.specs.declared.tolerance.JointTolerance.{JointTolerance}
use Rattle.joint_refusals.specs.Refusals.{passes4}
use Rattle.joint_refusals.specs.Tolerances.{passes26}
use Rattle.rules.specs.Rules.{Rules, rule_count, rule_dimension, tolerance_at, passes27, passes28, ruled_by, two_rules}
use Rattle.rules.proofs.Agree.{agree}
use Rattle.rules.proofs.Two.{two_fit, two_ruled, two_tolerance}
use Rattle.preconditioner.specs.declared.mode.Mode.{Mode}
use Rattle.steps.specs.Solve.{solve}
use Rattle.solve_method.specs.Method.{method_of}
use Rattle.solve_method.specs.Position.{shifted_problem, moving_problem}
use Rattle.check_range.specs.Closing.{closing_of, speeds_of}
use Rattle.check_answer.specs.Answer.{check_of}
use Rattle.theorems.specs.Below.{AgreeBelow, TablesAlike}
use Rattle.theorems.proofs.Below.{looks_below}
use Rattle.theorems.proofs.Checks.{check_below}

module _ (t : Table) (rules : Rules) (tolerance : JointTolerance) (four : passes4 t ≡ true) (fit : passes27 rules ≡ true) (ruled : passes28 rules t ≡ true) (sound : passes26 tolerance ≡ true)
    (same : (r : ℕ) → r < rule_count rules → (rule_dimension rules r ≡ 0 → tolerance_at rules r ≡ tolerance.linear_m) × (rule_dimension rules r ≡ 1 → tolerance_at rules r ≡ tolerance.angular_rad)) where
  by_two : (i : ℕ) → i < t.rows → (ruled_by (two_rules tolerance) t).row i ≡ (ruled_by rules t).row i
  by_two i h = two_tolerance tolerance t four i h ∙ sym (agree rules tolerance t four ruled same i h)

  tests_same : (ruled_by (two_rules tolerance) t).tests ≡ (ruled_by rules t).tests
  tests_same = rw (fit, ruled, two_fit tolerance, sound, two_ruled tolerance t four)

  itself : AgreeBelow t t
  itself = record { rows = refl; bodies = refl; row = λ i h. refl; mass = λ b h. refl }

  alike : TablesAlike t t
  alike = record { rows = refl; bodies = refl; row = λ i h. record { fit = refl; valid = refl; jacobian = refl; dimension = refl }; mass = λ b h. refl }

  pub solved_alike : (centre : ℕ → Vec3) (fits : Bool) (shift : Float) (mode : Mode) (limit : ℕ) → solve (method_of fits (shifted_problem t (ruled_by (two_rules tolerance) t) shift centre) mode) limit ≡ solve (method_of fits (shifted_problem t (ruled_by rules t) shift centre) mode) limit
  solved_alike centre = (looks_below t t itself).solves (ruled_by rules t) (ruled_by (two_rules tolerance) t) tests_same by_two centre centre (λ b h. refl)

  pub checked_alike : (fits : Bool) (listed : ℕ → Float) (placed : Bool) → check_of fits (closing_of t listed (two_rules tolerance) placed) ≡ check_of fits (closing_of t listed rules placed)
  checked_alike fits listed placed =
      check_below (closing_of t listed rules placed) (closing_of t listed (two_rules tolerance) placed)
      (record { table = alike; error = λ i h. refl; listed = λ i h. refl; tolerance = by_two; tolerance_tests = tests_same; lent = refl; placed = refl }) fits

  -- of velocities (document 02, a)
  pub moving_alike : (residual : ℕ → Float) (fits : Bool) (shift : Float) (mode : Mode) (limit : ℕ) → solve (method_of fits (moving_problem t (ruled_by (two_rules tolerance) t) shift residual) mode) limit ≡ solve (method_of fits (moving_problem t (ruled_by rules t) shift residual) mode) limit
  moving_alike residual = (looks_below t t itself).moving (ruled_by rules t) (ruled_by (two_rules tolerance) t) tests_same by_two residual residual (λ i h. refl)

  pub speeds_alike : (fits : Bool) (listed residual : ℕ → Float) → check_of fits (speeds_of t listed (two_rules tolerance) residual) ≡ check_of fits (speeds_of t listed rules residual)
  speeds_alike fits listed residual =
      check_below (speeds_of t listed rules residual) (speeds_of t listed (two_rules tolerance) residual)
      (record { table = alike; error = λ i h. refl; listed = λ i h. refl; tolerance = by_two; tolerance_tests = tests_same; lent = refl; placed = refl }) fits
