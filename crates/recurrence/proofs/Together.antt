-- The parts of a step come to `advance_of`, once the residual is tested, and to `renew_from`; and what a step with z and s tells of its parts. Assumes nothing.
use Prim.Native.Nat.{ℕ}
use mathlib.Core.Path.{◌≡◌, refl, sym, ap, ◌∙◌}
use mathlib.Core.Bool.{Bool, true, false, ◌&&◌}
use mathlib.Core.List.{List}
use lib.Ieee.{Float}
use Rattle.loops.specs.Run.{Run, going, ended, on, next, check}
use Rattle.loops.specs.Judge.{test}
use Rattle.loops.proofs.Loop.{on_going, on_ended}
use Rattle.loops.proofs.Inverse.{apart, going_inj, ended_inj}
use Rattle.mass_operator.specs.System.{System}
use Rattle.mass_operator.specs.Flat.{coefficients, product_of}
use Rattle.mass_operator.specs.Applied.{all_finite_of}
use Rattle.preconditioner.specs.Apply.{diagonal_solve_of}
use Rattle.recurrence.specs.Vectors.{dot_product_of, plus_scaled, less_scaled}
use Rattle.recurrence.specs.Step.{Iterate, Carried, alpha_of, updated_of, advance_of, renew_from}
use Rattle.recurrence.specs.Parts.{length_of, moved_of, with_diagonal, next_from}

-- the residual: 16
abbrev residual_fit : Iterate → Run Iterate ℕ
residual_fit w = next (test (all_finite_of w.residual) 16) (λ _. going w)

-- two tests with one number, one after the other
both_tests : (w : Iterate) (a : Bool) → next (test (a && all_finite_of w.residual) 16) (λ _. going w) ≡ next (next (test a 16) (λ _. going w)) residual_fit
unfolding test check on
both_tests w true = refl
both_tests w false = refl

updated_is : (v : Iterate) (direction product : List Float) (alpha : Float) → updated_of v direction product alpha ≡ next (moved_of v direction product alpha) residual_fit
unfolding updated_of moved_of
updated_is v direction product alpha = let x = plus_scaled v.solution alpha direction in both_tests (record { solution = x; residual = less_scaled v.residual alpha product }) (all_finite_of x)

-- ---- of a step as it is moved
module _ (v : Iterate) (direction product : List Float) (alpha : Float) where
  pub moved_refused : (n : ℕ) → moved_of v direction product alpha ≡ ended n → updated_of v direction product alpha ≡ ended n
  moved_refused n h = updated_is v direction product alpha ∙ on_ended _ _ _ h

  module _ (w : Iterate) (h : moved_of v direction product alpha ≡ going w) where
    pub moved_finite : all_finite_of w.residual ≡ true → updated_of v direction product alpha ≡ going w
    unfolding test check
    moved_finite f = updated_is v direction product alpha ∙ on_going _ _ _ {s = w} h ∙ on_going _ _ _ (rw f)

    pub moved_overflow : all_finite_of w.residual ≡ false → updated_of v direction product alpha ≡ ended 16
    unfolding test check
    moved_overflow f = updated_is v direction product alpha ∙ on_going _ _ _ {s = w} h ∙ on_ended _ _ _ {a = 16} (rw f)

-- ---- from its length on
module _ (s : System) (v : Iterate) (c : Carried) where
  abbrev made : List Float
  made = product_of s (coefficients c.direction)

  advance_is : advance_of s v c ≡ next (length_of s c) (updated_of v c.direction made)
  unfolding advance_of length_of on
  advance_is = by (test (all_finite_of made) 16)
    where
      alpha : Run Float ℕ
      alpha = alpha_of c.s (dot_product_of c.direction made)

      by : (t : Run Unit ℕ) → next t (λ _. next alpha (updated_of v c.direction made)) ≡ next (next t (λ _. alpha)) (updated_of v c.direction made)
      by (going _) = refl
      by (ended n) = refl

  pub advance_refused : (n : ℕ) → length_of s c ≡ ended n → advance_of s v c ≡ ended n
  advance_refused n h = advance_is ∙ on_ended _ _ _ h

  pub advance_along : (alpha : Float) (product : List Float) → length_of s c ≡ going alpha → product ≡ made → advance_of s v c ≡ updated_of v c.direction product alpha
  advance_along alpha product h e = advance_is ∙ on_going _ _ _ {s = alpha} h ∙ rw (← e)

-- ---- from z and its s on
pub renewed : (residual z : List Float) (c : Carried) (s : Float) {o : Run Carried ℕ} → s ≡ dot_product_of residual z → next_from z c s ≡ o → renew_from (going z) residual c ≡ o
unfolding renew_from next_from
renewed residual z c s es h = on_going _ _ _ refl ∙ rw (← es) h

-- ---- of a step with z and s
pub with_refused : (r : Run Iterate ℕ) (diagonal : List Float) (n : ℕ) → next r (with_diagonal diagonal) ≡ ended n → r ≡ ended n
unfolding on
with_refused (going w) diagonal n h = absurd (apart _ refl h)
with_refused (ended k) diagonal n h = ap ended (ended_inj h)

pub with_made : (r : Run Iterate ℕ) (diagonal : List Float) (w : Iterate) (z : List Float) (s : Float) → next r (with_diagonal diagonal) ≡ going (w, z, s)
    → (r ≡ going w) × (z ≡ diagonal_solve_of w.residual diagonal) × (s ≡ dot_product_of w.residual z)
unfolding on
with_made (going v) diagonal w z s h =
    let e = going_inj h in
    let ew : v ≡ w = ap (λ (t : Iterate × List Float × Float). t.0) e in
    let ez : diagonal_solve_of v.residual diagonal ≡ z = ap (λ (t : Iterate × List Float × Float). t.1) e in
    let es : dot_product_of v.residual (diagonal_solve_of v.residual diagonal) ≡ s = ap (λ (t : Iterate × List Float × Float). t.2) e in
    (ap going ew, sym ez ∙ ap (λ (u : Iterate). diagonal_solve_of u.residual diagonal) ew, sym es ∙ ap (dot_product_of v.residual) ez ∙ ap (λ (u : Iterate). dot_product_of u.residual z) ew)
with_made (ended k) diagonal w z s h = absurd (apart _ h refl)
