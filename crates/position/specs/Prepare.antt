-- Step 0. Document 01: "Residual starts as −error. The diagonal is the rounded sum of both bodies' SolverMass::diagonal. If it is at most MIN and |residual| is not above tolerance, it becomes 1.0 and the residual 0.0."
-- pcg.rs, solve_position_pcg_prepared, the loop over the rows.
use Rattle.std.specs.Prelude.{ℕ, Bool, not, ◌&&◌, cond, List, [], ◌∷◌, Float}
use Rattle.std.specs.Float.{binary64}
use Rattle.std.specs.Float.Ieee.{add, le, lt, of_bits}
use Rattle.std.specs.Float.Ieee.Scale.{finite}
use Rattle.loops.specs.Run.{Run, check, next}
use Rattle.loops.specs.Judge.{judge, judged}
use Rattle.loops.specs.Tabulate.{tabulate}
use Rattle.loops.specs.Cleared.{plus_zero}
use Rattle.binary64.specs.Order.{absolute, min_positive}
use Rattle.kapitsa_joint.specs.Mass.{diagonal_of}
use Rattle.kapitsa_joint.specs.Table.{Table}
use Rattle.kapitsa_joint.specs.declared.row.ConstraintRow.{ConstraintRow}
use Rattle.kapitsa_joint.specs.declared.mass.SolverMass.{SolverMass}
use Rattle.joint_refusals.specs.Refusals.{is_valid_of}
use Rattle.position.specs.Problem.{Problem}

-- 1.0
abbrev pub one : Float
one = of_bits binary64 0x3ff0_0000_0000_0000

unfoldable pub row_diagonal : (ℕ → SolverMass) → ConstraintRow → Float
row_diagonal mass r =
    add binary64 (diagonal_of (mass r.words.body_a) r.linear_a r.angular_a) (diagonal_of (mass r.words.body_b) r.linear_b r.angular_b)

-- "8. A row's diagonal overflows."
unfoldable pub passes8 : Float → Bool
passes8 d = finite d

-- at most MIN: such a diagonal is replaced
unfoldable pub is_low : Float → Bool
is_low d = le d min_positive

-- "9. A row's diagonal is at most MIN and its |residual| exceeds tolerance."
unfoldable pub passes9 : Float → Float → Float → Bool
passes9 d residual tolerance = not (is_low d && lt tolerance (absolute residual))

-- ---- step 0 is judged
module _ (p : Problem) where
  abbrev pub diagonal_tests : ℕ → List (ℕ × Bool)
  diagonal_tests i = let d = row_diagonal p.table.mass (p.table.row i) in (8, passes8 d) ∷ ((9, passes9 d (p.start i) (p.tolerance i)) ∷ [])

  abbrev pub valid_test : ℕ → ℕ × Bool
  valid_test i = (7, is_valid_of p.table.bodies (p.table.row i))

  -- "7 to 9 run row by row"
  unfoldable pub row_judged : ℕ → Run Unit ℕ
  row_judged i = judge (valid_test i ∷ diagonal_tests i)

  -- or 7 for all rows, then 8 and 9 row by row
  unfoldable pub valid_judged : Run Unit ℕ
  valid_judged = judged (λ i. judge (valid_test i ∷ [])) p.table.rows

  unfoldable pub diagonals_judged : Run Unit ℕ
  diagonals_judged = judged (λ i. judge (diagonal_tests i)) p.table.rows

  unfoldable pub rows_judged : Run Unit ℕ
  rows_judged = check p.valid_first (next valid_judged (λ _. diagonals_judged)) (judged row_judged p.table.rows)

-- ---- the diagonal and the residual of row i, replaced where the diagonal is at most MIN
unfoldable pub prepared_diagonal : Table → ℕ → Float
prepared_diagonal t i = let d = row_diagonal t.mass (t.row i) in cond (is_low d) one d

unfoldable pub prepared_residual : Table → (ℕ → Float) → ℕ → Float
prepared_residual t start i = cond (is_low (row_diagonal t.mass (t.row i))) plus_zero (start i)

unfoldable pub diagonals : Table → List Float
diagonals t = tabulate (prepared_diagonal t) t.rows

unfoldable pub residuals : Table → (ℕ → Float) → List Float
residuals t start = tabulate (prepared_residual t start) t.rows
