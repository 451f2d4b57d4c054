-- The ways through the checked forms, as the code takes them. Assumes nothing.
use Prim.Native.Nat.{ℕ}
use mathlib.Core.Path.{◌≡◌, refl, ◌∙◌}
use mathlib.Core.Bool.{Bool, true, false, not, ◌&&◌}
use lib.Ieee.{Float}
use lib.Ieee.Scale.{finite}
use borrow.Author.Tests.{not-true, not-false}
use Rattle.std.specs.Prelude.{Option, Some, None}
use Rattle.std.specs.Bool.{then_some}
use Rattle.loops.specs.Run.{check, on}
use Rattle.loops.specs.Judge.{test}
use Rattle.kapitsa_math.specs.Vector.{dot_of, is_finite_of}
use Rattle.kapitsa_math.specs.Matrix.{mul_vector_of, finite_columns_of}
use Rattle.kapitsa_math.specs.Checked.{checked_value_of, checked_dot_of, checked_mul_vector_of, checked_out, CheckedTells, value_run, dot_run, mul_vector_run}
use Rattle.kapitsa_math.specs.declared.vector.Vec3.{Vec3}
use Rattle.kapitsa_math.specs.declared.matrix.Mat3.{Mat3}

by_test : {A : Type 0} (b : Bool) (x : A) → then_some b x ≡ check b (Some x) None
unfolding check
by_test true x = refl
by_test false x = refl

pub checked_is : (x : Float) {r : Bool} {a : Option Float} → r ≡ finite x → a ≡ then_some r x → a ≡ checked_value_of x
unfolding checked_value_of
checked_is x {r} p e = e ∙ by_test r x ∙ rw p

module _ (v w : Vec3) {r s : Bool} (p : r ≡ is_finite_of v) (q : s ≡ is_finite_of w) where
  pub dot_checked : {d : Float} {a : Option Float} → not (r && s) ≡ false → d ≡ dot_of v w → a ≡ checked_value_of d → a ≡ checked_dot_of v w
  unfolding checked_dot_of check
  dot_checked {d} h e k = k ∙ rw (← p, ← q, not-false (r && s) h, e)

  pub dot_refused : not (r && s) ≡ true → None ≡ checked_dot_of v w
  unfolding checked_dot_of check
  dot_refused h = rw (← p, ← q, not-true (r && s) h)

module _ (m : Mat3) (v : Vec3) {r s : Bool} (p : r ≡ finite_columns_of m) (q : s ≡ is_finite_of v) where
  pub product_refused : not (r && s) ≡ true → None ≡ checked_mul_vector_of m v
  unfolding checked_mul_vector_of check
  product_refused h = rw (← p, ← q, not-true (r && s) h)

  pub product_checked : {d : Vec3} {t : Bool} {a : Option Vec3} → not (r && s) ≡ false → d ≡ mul_vector_of m v → t ≡ is_finite_of d → a ≡ then_some t d → a ≡ checked_mul_vector_of m v
  unfolding checked_mul_vector_of check
  product_checked {d} {t} h e k g = g ∙ by_test t d ∙ rw (← p, ← q, not-false (r && s) h, ← e, ← k)

-- ---- the number of each answer, whatever the caller calls an overflow
value_by : (x : Float) (b : Bool) → finite x ≡ b → (number : ℕ) → value_run x number ≡ checked_out number (checked_value_of x)
unfolding value_run checked_value_of test check on
value_by x true h number = rw h
value_by x false h number = rw h

pub value_told : (x : Float) {r : Option Float} → r ≡ checked_value_of x → CheckedTells (value_run x) r
value_told x e = record { told = λ number. rw e (value_by x (finite x) refl number) }

dot_by : (v w : Vec3) (b : Bool) → (is_finite_of v && is_finite_of w) ≡ b → (number : ℕ) → dot_run v w number ≡ checked_out number (checked_dot_of v w)
unfolding dot_run checked_dot_of test check on
dot_by v w true h number = rw h (value_by (dot_of v w) (finite (dot_of v w)) refl number)
dot_by v w false h number = rw h

pub dot_told : (v w : Vec3) {r : Option Float} → r ≡ checked_dot_of v w → CheckedTells (dot_run v w) r
dot_told v w e = record { told = λ number. rw e (dot_by v w (is_finite_of v && is_finite_of w) refl number) }

product_by : (m : Mat3) (v : Vec3) (b c : Bool) → (finite_columns_of m && is_finite_of v) ≡ b → is_finite_of (mul_vector_of m v) ≡ c → (number : ℕ) → mul_vector_run m v number ≡ checked_out number (checked_mul_vector_of m v)
unfolding mul_vector_run checked_mul_vector_of test check on
product_by m v true true h k number = rw (h, k)
product_by m v true false h k number = rw (h, k)
product_by m v false c h k number = rw h

pub product_told : (m : Mat3) (v : Vec3) {r : Option Vec3} → r ≡ checked_mul_vector_of m v → CheckedTells (mul_vector_run m v) r
product_told m v e = record { told = λ number. rw e (product_by m v (finite_columns_of m && is_finite_of v) (is_finite_of (mul_vector_of m v)) refl refl number) }
