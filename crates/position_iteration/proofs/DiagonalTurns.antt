-- The ways through a step of mode 0, whose z and s come with it, and that it is the step of the mode. Assumes nothing.
use Prim.Native.Nat.{ℕ}
use mathlib.Core.Path.{◌≡◌, refl, sym, ap, ◌∙◌}
use mathlib.Core.Bool.{Bool, true, false, not}
use mathlib.Core.List.{List}
use lib.ListN.{length}
use lib.Ieee.{Float}
use Rattle.loops.specs.Run.{Run, going, ended, on, next}
use Rattle.loops.proofs.Inverse.{apart}
use Rattle.mass_operator.specs.Applied.{all_finite_of}
use Rattle.preconditioner.specs.Apply.{diagonal_solve_of, preconditioned_run}
use Rattle.preconditioner.specs.Room.{Memory}
use Rattle.preconditioner.specs.declared.apply.Preconditioner.{Preconditioner}
use Rattle.preconditioner.specs.declared.apply.Preconditioner.TheVariants as built
use Rattle.recurrence.specs.Vectors.{dot_product_of}
use Rattle.recurrence.specs.Step.{Iterate, Carried, renew_from}
use Rattle.recurrence.specs.Parts.{moved_of, with_diagonal, next_from}
use Rattle.recurrence.specs.Answers.{diagonal_out, carried_out}
use Rattle.refusals.specs.Number.{number_of}
use Rattle.refusals.specs.declared.Refusal.{Refusal}
use Rattle.refusals.specs.declared.Refusal.TheVariants as refusals
use Rattle.std.specs.Prelude.{Result, Ok, Err, Option, Some, None}
use Rattle.recurrence.proofs.Together.{renewed, with_refused, with_made}
use Rattle.position.specs.Residual.{meets_of}
use Rattle.solve_method.specs.Method.{steps_by}
use Rattle.position_iteration.specs.Standing.{TurnIs, along, steps_along, diagonal_steps_along}
use Rattle.position_iteration.proofs.Turning.{step_refused, step_overflow, step_met, step_on, step_out}

-- ---- `take_diagonal_step`
module _ (n : ℕ) (tolerance : ℕ → Float) (diagonal : List Float) (v : Iterate) (c : Carried) (product : List Float) (alpha : Float) (q : Result Float Refusal) (x r z : List Float) (called : next (moved_of v c.direction product alpha) (with_diagonal diagonal) ≡ diagonal_out q x r z) where
  abbrev z_of : List Float → Run (List Float) ℕ
  z_of residual = going (diagonal_solve_of residual diagonal)

  abbrev after : Iterate
  after = record { solution = x; residual = r }

  pub diagonal_refused : (k : Refusal) (d : List Float) → q ≡ Err k → TurnIs (steps_by z_of (along product alpha) n tolerance) (v, c) (Err k) x r d
  diagonal_refused k d t = step_refused z_of n tolerance v c product alpha x r k d (with_refused (moved_of v c.direction product alpha) diagonal (number_of k) (called ∙ rw t))

  module _ (t : Float) (e : q ≡ Ok t) where
    made : (moved_of v c.direction product alpha ≡ going after) × (z ≡ diagonal_solve_of r diagonal) × (t ≡ dot_product_of r z)
    made = with_made (moved_of v c.direction product alpha) diagonal after z t (called ∙ rw e)

    pub diagonal_overflow : (d : List Float) (f : Bool) → f ≡ all_finite_of r → not f ≡ true → TurnIs (steps_by z_of (along product alpha) n tolerance) (v, c) (Err refusals.Step) x r d
    diagonal_overflow d f ef h = step_overflow z_of n tolerance v c product alpha x r made.0 d f ef h

    module _ (b : Bool) (eb : b ≡ meets_of tolerance r (length r)) (long : length r ≡ n) where
      pub diagonal_met : (d : List Float) (f : Bool) → f ≡ all_finite_of r → not f ≡ false → b ≡ true → TurnIs (steps_by z_of (along product alpha) n tolerance) (v, c) (Ok None) x r d
      diagonal_met d f ef h m = step_met z_of n tolerance v c product alpha x r made.0 b eb long d f ef h m

      module _ (miss : b ≡ false) (p : Result Float Refusal) (d : List Float) (next : next_from z c t ≡ carried_out p d) where
        anew : renew_from (z_of r) r c ≡ carried_out p d
        anew = ap (λ (y : List Float). renew_from (going y) r c) (sym made.1) ∙ renewed r z c t made.2 next

        never : (n : ℕ) → z_of r ≡ ended n → n ≡ 16
        never n h = absurd (apart _ refl h)

        pub diagonal_on : (u : Float) → p ≡ Ok u → TurnIs (steps_by z_of (along product alpha) n tolerance) (v, c) (Ok (Some u)) x r d
        diagonal_on u h = step_on z_of n tolerance v c product alpha x r made.0 b eb long miss never p d anew u h

        pub diagonal_out_lem : (k : Refusal) → p ≡ Err k → TurnIs (steps_by z_of (along product alpha) n tolerance) (v, c) (Err k) x r d
        diagonal_out_lem k h = step_out z_of n tolerance v c product alpha x r made.0 b eb long miss never p d anew k h

-- ---- `take_step`: in mode 0 z by what stands there is the residual by the diagonal
pub diagonal_turn : (p : Preconditioner) (n : ℕ) (tolerances : List Float) (m : Memory) (product : List Float) (alpha : Float) (before : Iterate × Carried) (answer : Result (Option Float) Refusal) (x r d : List Float) → p ≡ built.Diagonal
    → TurnIs (diagonal_steps_along n tolerances m.diagonal product alpha) before answer x r d → TurnIs (steps_along p n tolerances m product alpha) before answer x r d
unfolding preconditioned_run on
diagonal_turn p n tolerances m product alpha before answer x r d e h = rw e h
