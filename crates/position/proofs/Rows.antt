-- How the rows of step 0 are judged, and that it does not look at the tests before it. Assumes nothing.
use Prim.Native.Nat.{ℕ, zero, suc}
use mathlib.Core.Path.{◌≡◌, refl, sym, ◌∙◌}
use mathlib.Core.Bool.{Bool, true, false, true≢false}
use mathlib.Core.List.{List, [], ◌∷◌}
use mathlib.Core.Logic.{⊎_elim}
use Rattle.std.specs.Prelude.{Result}
use Rattle.refusals.specs.declared.Refusal.{Refusal}
use lib.Ieee.{Float}
use Rattle.loops.specs.Run.{Run, going, ended, check, next, on, turns}
use Rattle.loops.specs.Judge.{judge, judged, test}
use Rattle.loops.specs.Every.{every}
use Rattle.loops.proofs.Loop.{on_going, on_ended}
use Rattle.loops.proofs.Inverse.{saw_bool, apart, check_true, check_false}
use Rattle.loops.proofs.Every.{every_iff}
use Rattle.loops.proofs.Same.{judged_same}
use Rattle.joint_refusals.specs.Refusals.{is_valid_of}
use Rattle.position.specs.Problem.{Problem, started_problem}
use Rattle.position.specs.Prepare.{diagonal_tests, row_judged, valid_judged, diagonals_judged, rows_judged}
use Rattle.position.specs.Answers.{BegunHeld}

-- ---- tests of one number, in a row: passed where every one is, and refused with their number
module _ (n : ℕ) (p : ℕ → Bool) where
  abbrev tests : ℕ → Run Unit ℕ
  tests i = judge ((n, p i) ∷ [])

  one_test : (b : Bool) → judge ((n, b) ∷ []) ≡ check b (going tt) (ended n)
  unfolding judge test check on
  one_test true = refl
  one_test false = refl

  pub judged_every : (k : ℕ) → judged tests k ≡ check (every p k) (going tt) (ended n)
  unfolding judged turns every check
  judged_every zero = refl
  judged_every (suc k) = go (every p k) (judged_every k)
    where
      go : (b : Bool) → judged tests k ≡ check b (going tt) (ended n) → next (judged tests k) (λ _. tests k) ≡ check (check b (p k) false) (going tt) (ended n)
      go true e = on_going _ _ _ {s = tt} e ∙ one_test (p k)
      go false e = on_ended _ _ _ {a = n} e

-- ---- 7 of all rows, then 8 and 9 row by row
module _ (p : Problem) where
  abbrev pub is_valid_at : ℕ → Bool
  is_valid_at i = is_valid_of p.table.bodies (p.table.row i)

  -- 7 passes of all rows, where it comes before 8 and 9
  abbrev pub valid_before : Bool
  valid_before = check p.valid_first (every is_valid_at p.table.rows) true

  -- where all rows pass 7, it makes no difference that a row's 7 comes again before its 8 and 9
  row_valid : (i : ℕ) → is_valid_at i ≡ true → row_judged p i ≡ judge (diagonal_tests p i)
  unfolding row_judged judge test check on
  row_valid i h = rw h

  diagonals_judged_lem : every is_valid_at p.table.rows ≡ true → diagonals_judged p ≡ judged (row_judged p) p.table.rows
  unfolding diagonals_judged
  diagonals_judged_lem h = judged_same _ _ p.table.rows (λ i l. sym (row_valid i ((every_iff is_valid_at p.table.rows).0 h i l)))

  valid_judged_lem : valid_judged p ≡ check (every is_valid_at p.table.rows) (going tt) (ended 7)
  unfolding valid_judged
  valid_judged_lem = judged_every 7 is_valid_at p.table.rows

  pub rows_each : valid_before ≡ true → rows_judged p ≡ judged (row_judged p) p.table.rows
  unfolding rows_judged check
  rows_each = go p.valid_first
    where
      go : (b : Bool) → check b (every is_valid_at p.table.rows) true ≡ true → check b (next (valid_judged p) (λ _. diagonals_judged p)) (judged (row_judged p) p.table.rows) ≡ judged (row_judged p) p.table.rows
      go true h = on_going _ _ _ {s = tt} (valid_judged_lem ∙ check_true _ _ _ h) ∙ diagonals_judged_lem h
      go false h = refl

  pub rows_seven : valid_before ≡ false → rows_judged p ≡ ended 7
  unfolding rows_judged check
  rows_seven = go p.valid_first
    where
      go : (b : Bool) → check b (every is_valid_at p.table.rows) true ≡ false → check b (next (valid_judged p) (λ _. diagonals_judged p)) (judged (row_judged p) p.table.rows) ≡ ended 7
      go true h = on_ended _ _ _ {a = 7} (valid_judged_lem ∙ check_false _ _ _ h)
      go false h = absurd (true≢false h)

  -- in either order, where none is refused every row has passed 7 to 9
  pub rows_passed : rows_judged p ≡ going tt → judged (row_judged p) p.table.rows ≡ going tt
  rows_passed h = ⊎_elim (λ v. sym (rows_each v) ∙ h) (λ v. absurd (apart _ h (rows_seven v))) (saw_bool valid_before)

-- ---- step 0 looks at four parts of a problem
pub begun_of : (p : Problem) (a : Result Unit Refusal) (diagonal residual : List Float) → BegunHeld (started_problem p.valid_first p.table p.tolerance p.start) a diagonal residual → BegunHeld p a diagonal residual
unfolding rows_judged valid_judged diagonals_judged row_judged
begun_of p a diagonal residual h = record { judgement = h.judgement; diagonal_is = h.diagonal_is; residual_is = h.residual_is }
