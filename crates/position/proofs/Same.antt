-- Step 0 with other tolerances, from another start, is the same where they agree on the rows. Assumes nothing.
use Prim.Native.Nat.{ℕ, ◌<◌}
use mathlib.Core.Path.{◌≡◌, refl, sym, ◌∙◌}
use mathlib.Core.Bool.{Bool}
use mathlib.Core.List.{List}
use Rattle.std.specs.Prelude.{Result}
use Rattle.refusals.specs.declared.Refusal.{Refusal}
use lib.Ieee.{Float}
use Rattle.loops.specs.Judge.{judged}
use Rattle.loops.proofs.Same.{judged_same}
use Rattle.loops.proofs.Tabulate.{tabulate_same}
use Rattle.kapitsa_joint.specs.Table.{Table}
use Rattle.position.specs.Problem.{Problem, started_problem}
use Rattle.position.specs.Prepare.{row_judged, valid_judged, diagonals_judged, rows_judged, prepared_residual, residuals}
use Rattle.position.specs.Answers.{BegunHeld}

module _ (valid_first : Bool) (t : Table) (f g : ℕ → Float) (start from : ℕ → Float) (same : (i : ℕ) → i < t.rows → f i ≡ g i) (starts : (i : ℕ) → i < t.rows → start i ≡ from i) where
  abbrev P : Problem
  P = started_problem valid_first t f start

  abbrev Q : Problem
  Q = started_problem valid_first t g from

  row_same : (i : ℕ) → i < t.rows → row_judged P i ≡ row_judged Q i
  unfolding row_judged
  row_same i h = rw (same i h, starts i h)

  rows_same : judged (row_judged P) t.rows ≡ judged (row_judged Q) t.rows
  rows_same = judged_same _ _ t.rows row_same

  diagonals_same : diagonals_judged P ≡ diagonals_judged Q
  unfolding diagonals_judged
  diagonals_same = judged_same _ _ t.rows (λ i h. rw (same i h, starts i h))

  valid_same : valid_judged P ≡ valid_judged Q
  unfolding valid_judged
  valid_same = refl

  judged_alike : rows_judged P ≡ rows_judged Q
  unfolding rows_judged
  judged_alike = rw (rows_same, diagonals_same, valid_same)

  residuals_same : residuals t start ≡ residuals t from
  unfolding residuals prepared_residual
  residuals_same = tabulate_same _ _ t.rows (λ i h. rw (starts i h))

  pub begun_same : (a : Result Unit Refusal) (diagonal residual : List Float) → BegunHeld P a diagonal residual → BegunHeld Q a diagonal residual
  begun_same a diagonal residual h = record { judgement = sym judged_alike ∙ h.judgement; diagonal_is = h.diagonal_is; residual_is = λ d. h.residual_is d ∙ residuals_same }
