-- Step 0 while it runs: the rows before i were passed and have their diagonal and residual, the others have still the residual that they start from. Assumes nothing.
use Prim.Native.Nat.{ℕ, ◌+◌, ◌<◌, ◌≤◌}
use mathlib.Core.Path.{◌≡◌, refl, sym, ap, ◌∙◌}
use mathlib.Core.Bool.{Bool, true, false, not}
use mathlib.Core.List.{List}
use mathlib.Core.Logic.{inl, inr}
use native.Mathlib.Omega.{arith}
use Rattle.std.specs.Prelude.{Result, Ok, Err, IsErrAnd}
use Rattle.refusals.specs.Number.{number_of}
use Rattle.refusals.proofs.Again.{told_again}
use Rattle.refusals.specs.declared.Refusal.{Refusal}
use Rattle.refusals.specs.declared.Refusal.TheVariants.{Row}
use borrow.Author.Tests.{not-true, not-false}
use lib.ListN.{length, get_or, set}
use lib.Seq.{get_or-set_other}
use lib.Ieee.{Float, nan}
use Rattle.loops.specs.Run.{Run, going, ended, next}
use Rattle.loops.specs.Judge.{judged}
use Rattle.loops.proofs.Loop.{At, at_none, at_more, at_stop, at_end}
use Rattle.loops.proofs.Inverse.{next_going, next_ended, going_inj, apart}
use Rattle.loops.proofs.Fill.{Fills, fills_none, fills_put}
use Rattle.loops.proofs.Tabulate.{filled_tabulate}
use Rattle.kapitsa_joint.specs.Table.{Table}
use Rattle.mass_operator.specs.Flat.{coefficients}
use Rattle.position.specs.Problem.{Problem, started_problem}
use Rattle.position.specs.Prepare.{row_judged, prepared_diagonal, prepared_residual, diagonals, residuals}
use Rattle.position.specs.Answers.{row_out, BegunHeld}
use Rattle.position.specs.declared.prepare.PreparedRow.{PreparedRow}
use Rattle.position.proofs.Rows.{valid_before, rows_each, rows_seven}

unlike : (b : Result Unit Refusal) (e : Refusal) → IsErrAnd b (λ y. y ≡ e) → b ≡ Ok tt → ⊥
unlike (Ok u) e h q = h
unlike (Err y) e h q = cc

-- of a problem that starts from a lent list
pub record Started (p : Problem) (from : List Float) (i : ℕ) (diagonal residual : List Float) : Type 0 where
  pub valid : valid_before p ≡ true
  pub passed : At (λ k _. row_judged p k) tt p.table.rows i tt
  pub diagonal_filled : Fills nan (prepared_diagonal p.table) p.table.rows i diagonal
  pub residual_filled : Fills nan (prepared_residual p.table (coefficients from)) p.table.rows i residual
  pub kept : (k : ℕ) → i ≤ k → get_or residual k nan ≡ get_or from k nan

module _ (valid_first : Bool) (t : Table) (tolerance : ℕ → Float) (from : List Float) where
  abbrev P : Problem
  P = started_problem valid_first t tolerance (coefficients from)

  pub started_none : (v : Bool) (diagonal : List Float) → v ≡ valid_before P → not v ≡ false → length diagonal ≡ t.rows → length from ≡ t.rows → Started P from 0 diagonal from
  started_none v diagonal ev h d r = record { valid = sym ev ∙ not-false v h; passed = at_none; diagonal_filled = fills_none diagonal d; residual_filled = fills_none from r; kept = λ k _. refl }

  pub started_seven : (v : Bool) (diagonal residual : List Float) → v ≡ valid_before P → not v ≡ true → BegunHeld P (Err Row) diagonal residual
  started_seven v diagonal residual ev h = record { judgement = rows_seven P (sym ev ∙ not-true v h); diagonal_is = λ q. absurd (unlike (Err Row) Row refl q); residual_is = λ q. absurd (unlike (Err Row) Row refl q) }

  module _ (i : ℕ) (diagonal residual : List Float) (h : Started P from i diagonal residual) where
    -- row i, from the number that stands there, which is still the one it starts from
    abbrev alone : Float → Run (Float × Float) ℕ
    alone x = next (row_judged (started_problem false t tolerance (λ _. x)) i) (λ _. going (prepared_diagonal t i, prepared_residual t (λ _. x) i))

    abbrev prepared : Float × Float
    prepared = (prepared_diagonal t i, prepared_residual t (coefficients from) i)

    its : alone (get_or residual i nan) ≡ next (row_judged P i) (λ _. going prepared)
    unfolding row_judged prepared_residual
    its = rw (h.kept i (omega arith))

    module _ (l : i < t.rows) (a : Result PreparedRow Refusal) (called : alone (get_or residual i nan) ≡ row_out a) where
      pub started_more : (p : PreparedRow) → a ≡ Ok p → Started P from (i + 1) (set diagonal i p.diagonal) (set residual i p.residual)
      started_more p e =
          let (s, j, g) = (next_going (row_judged P i) (λ _. going prepared) (p.diagonal, p.residual)).0 (sym its ∙ called ∙ rw e) in
          let q = sym (going_inj g) in
          record {
            valid = h.valid;
            passed = at_more h.passed l j;
            diagonal_filled = fills_put h.diagonal_filled l (ap (λ (x : Float × Float). x.0) q) refl;
            residual_filled = fills_put h.residual_filled l (ap (λ (x : Float × Float). x.1) q) refl;
            kept = λ k m. get_or-set_other residual i k p.residual nan (λ z. omega arith) ∙ h.kept k (omega arith);
          }

      refused_row : (e : Refusal) → a ≡ Err e → row_judged P i ≡ ended (number_of e)
      refused_row e q = elim ((next_ended (row_judged P i) (λ _. going prepared) (number_of e)).0 (sym its ∙ called ∙ rw q)) [
        | inl q ↦ q
        | inr q ↦ absurd (apart _ refl q.2)
      ]

      pub started_refused : (e : Refusal) (b : Result Unit Refusal) → a ≡ Err e → IsErrAnd b (λ y. y ≡ e) → BegunHeld P b diagonal residual
      unfolding judged
      started_refused e b s f = record { judgement = rows_each P h.valid ∙ at_stop h.passed l (refused_row e s) ∙ sym (told_again b e f); diagonal_is = λ q. absurd (unlike b e f q); residual_is = λ q. absurd (unlike b e f q) }

    pub started_done : t.rows ≤ i → BegunHeld P (Ok tt) diagonal residual
    unfolding judged diagonals residuals
    started_done l = record { judgement = rows_each P h.valid ∙ at_end h.passed l; diagonal_is = λ _. filled_tabulate h.diagonal_filled l; residual_is = λ _. filled_tabulate h.residual_filled l }
