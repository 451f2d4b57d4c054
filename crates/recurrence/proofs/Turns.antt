-- The ways through a step, and that the test of its product refuses nothing that the test of direction · product lets through. Assumes nothing.
use Prim.Native.Nat.{ℕ}
use mathlib.Core.Path.{◌≡◌, refl, sym, ap, ◌∙◌}
use mathlib.Core.Bool.{Bool, true, false, not}
use mathlib.Core.List.{List}
use lib.ListN.{length}
use lib.Ieee.{Float}
use lib.Ieee.Scale.{finite}
use Rattle.loops.specs.Run.{Run, going, ended, next, check}
use Rattle.loops.specs.Judge.{test}
use Rattle.loops.proofs.Loop.{on_going, on_ended}
use Rattle.mass_operator.specs.System.{System}
use Rattle.mass_operator.specs.Flat.{coefficients, product_of, Multiplied}
use Rattle.mass_operator.specs.Applied.{all_finite_of}
use Rattle.mass_operator.specs.Operator.{value_at}
use Rattle.mass_operator.proofs.Dots.{dot_not_finite}
use Rattle.recurrence.specs.Vectors.{dot_product_of, plus_scaled, less_scaled}
use Rattle.recurrence.specs.Step.{alpha_of}
use Rattle.recurrence.specs.Parts.{length_of, moved_of}
use Rattle.loops.proofs.Judge.{test_pass, test_fail}
use Rattle.loops.proofs.Tabulate.{length_tabulate}

-- ---- `advance`
module _ (x₀ r₀ direction product : List Float) (a : Float) (x : List Float) (t : Bool) (ex : x ≡ plus_scaled x₀ a direction) (et : t ≡ all_finite_of x) where
  pub advance_bad : not t ≡ true → moved_of record { solution = x₀; residual = r₀ } direction product a ≡ ended 16
  unfolding moved_of
  advance_bad h = rw (← ex) (test_fail _ _ _ et h)

  pub advance_is : (r : List Float) → r ≡ less_scaled r₀ a product → not t ≡ false → moved_of record { solution = x₀; residual = r₀ } direction product a ≡ going record { solution = x; residual = r }
  unfolding moved_of
  advance_is r er h = rw (← ex, ← er) (test_pass _ _ _ et h refl)

-- ---- `step_length`
alpha_sixteen : (s d : Float) → finite d ≡ false → alpha_of s d ≡ ended 16
unfolding alpha_of test check
alpha_sixteen s d h = on_ended _ _ _ (rw h)

product_rows : (system : System) (x : ℕ → Float) → length (product_of system x) ≡ system.rows
unfolding product_of
product_rows system x = length_tabulate (value_at system x) system.rows

-- the test of the product refuses nothing that the test of direction · product lets through
tested : (s d : Float) (b : Bool) → (b ≡ false → finite d ≡ false) → next (test b 16) (λ _. alpha_of s d) ≡ alpha_of s d
unfolding test check
tested s d true h = on_going _ _ _ refl
tested s d false h = on_ended _ _ _ refl ∙ sym (alpha_sixteen s d (h refl))

pub length_is : (system : System) (direction : List Float) (s d : Float) (responses product : List Float) {o : Run Float ℕ} → Multiplied system direction d responses product → system.rows ≡ length direction → alpha_of s d ≡ o → length_of system record { direction = direction; s = s } ≡ o
unfolding length_of
length_is system direction s d responses product m rows h = rw (← m.multiplied, ← answered) (tested s d (all_finite_of product) (λ f. rw answered (dot_not_finite direction product long f)) ∙ h)
  where
    answered : d ≡ dot_product_of direction product
    answered = m.answered ∙ rw (← m.multiplied)

    long : length product ≡ length direction
    long = ap length m.multiplied ∙ product_rows system (coefficients direction) ∙ rows
