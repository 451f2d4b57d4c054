-- What the delivery reads out of the lent lists is what the problem of either kind has. Assumes nothing.
use Prim.Native.Nat.{ℕ, ◌+◌, ◌*◌}
use mathlib.Core.Path.{◌≡◌, refl, sym, ap, ◌∙◌, fun_ext}
use mathlib.Core.Bool.{Bool}
use mathlib.Core.List.{List, [], ◌∷◌}
use native.Mathlib.Omega.{arith}
use lib.ListN.{get_or, length}
use lib.Ieee.{Float, nan}
use Rattle.loops.specs.Run.{Run, next}
use Rattle.kapitsa_joint.specs.Row.{row_of, scalars_of}
use Rattle.kapitsa_joint.specs.Table.{Table, table_of}
use Rattle.kapitsa_joint.specs.Centre.{centres_in, no_centres}
use Rattle.rules.specs.Rules.{Rules}
use Rattle.recurrence.specs.Step.{Iterate}
use Rattle.position.specs.Problem.{Problem, multipliers, accumulated_impulses}
use Rattle.kapitsa_joint.specs.Kind.{place_of, placed_of}
use Rattle.position.specs.Multipliers.{accumulated_in}
use Rattle.kapitsa_joint.specs.declared.kind.Kind.{Kind}
use Rattle.kapitsa_joint.specs.declared.kind.Kind.TheVariants as kinds
use Rattle.solve_method.specs.Position.{solve_for}
use Rattle.position_delivery.specs.Delivery.{finished_of}
use Rattle.position_delivery.specs.Outcome.{Answer, Lent, Outcome, outcome_at}

-- ---- a row's scalars begin at its number 15: accumulated_multiplier is the tenth of them, accumulated_impulse the one after it
module _ (rows bodies : ℕ) (numbers : List Float) (words : List ℕ) (masses : List Float) where
  abbrev table : Table
  table = table_of rows bodies numbers words masses

  pub multipliers_in : accumulated_in 24 numbers ≡ multipliers table
  unfolding row_of scalars_of
  multipliers_in = fun_ext (λ i. let e : 27 * i + 24 ≡ 27 * i + 15 + 9 = omega arith in ap (λ (k : ℕ). get_or numbers k nan) e)

  pub impulses_in : accumulated_in 25 numbers ≡ accumulated_impulses table
  unfolding row_of scalars_of
  impulses_in = fun_ext (λ i. let e : 27 * i + 25 ≡ 27 * i + 15 + 10 = omega arith in ap (λ (k : ℕ). get_or numbers k nan) e)

-- ---- no numbers, no centres
pub no_centres_lem : (l : List Float) → length l ≡ 0 → centres_in 0 l ≡ no_centres
no_centres_lem [] e = refl
no_centres_lem (x ∷ l) e = absurd (omega (arith, e))

-- ---- of either kind, what is delivered by the lent lists is what is delivered of the problem
module _ (kind : Kind) (rows bodies : ℕ) (numbers : List Float) (words : List ℕ) (masses centres residual : List Float) (rules : Rules) (shift : Float) (long : length centres ≡ 3 * placed_of kind bodies) where
  abbrev problem : Problem
  problem = solve_for kind rows bodies numbers words masses centres residual rules shift

  abbrev finished : ℕ → ℕ → Bool × ℕ × Iterate → Answer
  finished place placed = finished_of problem.table (accumulated_in place numbers) (centres_in placed centres)

  accumulated_in_lem : (k : Kind) → accumulated_in (place_of k) numbers ≡ (solve_for k rows bodies numbers words masses centres residual rules shift).accumulated
  accumulated_in_lem kinds.Position = multipliers_in rows bodies numbers words masses
  accumulated_in_lem kinds.Velocity = impulses_in rows bodies numbers words masses

  centres_in_lem : (k : Kind) → length centres ≡ 3 * placed_of k bodies → centres_in (placed_of k bodies) centres ≡ (solve_for k rows bodies numbers words masses centres residual rules shift).centres
  centres_in_lem kinds.Position e = refl
  centres_in_lem kinds.Velocity e = no_centres_lem centres e

  finished_in : finished (place_of kind) (placed_of kind bodies) ≡ finished_of problem.table problem.accumulated problem.centres
  finished_in = ap (λ (f : ℕ → Float). finished_of problem.table f (centres_in (placed_of kind bodies) centres)) (accumulated_in_lem kind) ∙ ap (finished_of problem.table problem.accumulated) (centres_in_lem kind long)

  pub delivered_in : (place placed n : ℕ) (before : Lent) (x : Run (Bool × ℕ × Iterate) ℕ) (o : Outcome) → place ≡ place_of kind → placed ≡ placed_of kind bodies → outcome_at place n before (next x (finished place placed)) ≡ o
      → outcome_at (place_of kind) n before (next x (finished_of problem.table problem.accumulated problem.centres)) ≡ o
  delivered_in place placed n before x o ek ep h =
      ap (λ (f : Bool × ℕ × Iterate → Answer). outcome_at (place_of kind) n before (next x f)) (sym finished_in)
      ∙ ap (λ (k : ℕ). outcome_at (place_of kind) n before (next x (finished (place_of kind) k))) (sym ep)
      ∙ ap (λ (k : ℕ). outcome_at k n before (next x (finished k placed))) (sym ek)
      ∙ h
