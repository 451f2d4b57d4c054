-- A residual that is not finite is refused with 16 where z, s and direction are made anew, so it needs no test of its own there: either z is refused, or s = residual · z is not finite. Assumes nothing.
use Prim.Native.Nat.{ℕ}
use mathlib.Core.Path.{◌≡◌, refl, sym, ap, ◌∙◌}
use mathlib.Core.Bool.{Bool, true, false}
use mathlib.Core.List.{List}
use lib.Dec.{T}
use lib.ListN.{length, get_or}
use lib.Ieee.{Float, nan}
use lib.Ieee.Scale.{finite}
use Rattle.loops.specs.Run.{Run, going, ended, on, check}
use Rattle.loops.specs.Judge.{test}
use Rattle.loops.proofs.Loop.{on_going, on_ended}
use Rattle.loops.proofs.Every.{every_false}
use Rattle.loops.proofs.Inverse.{apart, ended_inj}
use Rattle.mass_operator.specs.Applied.{all_finite_of}
use Rattle.mass_operator.proofs.Dots.{dot_numbers_finite}
use Rattle.triangular.specs.Triangular.{or_sixteen}
use Rattle.recurrence.specs.Vectors.{dot_product_of}
use Rattle.recurrence.specs.Step.{Carried, product_fit, renew_from}

-- a vector that is not finite takes its dot products with it
pub dot_overflow : (x y : List Float) → all_finite_of x ≡ false → finite (dot_product_of x y) ≡ false
unfolding all_finite_of
dot_overflow x y h = let (k, l, f) = every_false (λ i. finite (get_or x i nan)) (length x) h in by (finite (dot_product_of x y)) (λ t. rw f at (dot_numbers_finite x y t k l).0)
  where
    by : (b : Bool) → (T b → ⊥) → b ≡ false
    by true n = absurd (n tt)
    by false n = refl

pub product_overflow : (s : Float) → finite s ≡ false → product_fit s ≡ ended 16
unfolding product_fit test check
product_overflow s h = on_ended _ _ _ (rw h)

-- z is refused with 16 alone
module _ (z : Run (List Float) ℕ) (sixteen : (n : ℕ) → z ≡ ended n → n ≡ 16) (residual : List Float) (c : Carried) where
  pub residual_overflow : all_finite_of residual ≡ false → renew_from z residual c ≡ ended 16
  unfolding renew_from
  residual_overflow h = by z refl
    where
      by : (r : Run (List Float) ℕ) → z ≡ r → renew_from z residual c ≡ ended 16
      by (going y) e = on_going _ _ _ e ∙ on_ended _ _ _ (product_overflow (dot_product_of residual y) (dot_overflow residual y h))
      by (ended n) e = on_ended _ _ _ e ∙ ap ended (sixteen n e)

-- which is so of every z
pub sixteen_alone : (run : Run (List Float) (List Float)) (n : ℕ) → or_sixteen run ≡ ended n → n ≡ 16
unfolding on
sixteen_alone (going y) n e = absurd (apart _ refl e)
sixteen_alone (ended y) n e = sym (ended_inj e)
