-- The numbers that a factor and a z are refused with: 10 to 13, and where there is a factor 16 alone. P is any predicate that holds of them. Assumes nothing.
use Prim.Native.Nat.{ℕ}
use mathlib.Core.Bool.{Bool}
use mathlib.Core.List.{List}
use lib.Dec.{eqb, ltb}
use lib.Ieee.{Float}
use Rattle.loops.specs.Run.{Goes, going, ended, check}
use Rattle.loops.proofs.Inverse.{apart, next_going}
use Rattle.loops.proofs.Ranges.{Among, among_going, among_ended, among_next, among_check, among_cond, among_answered, among_turns, among_judged}
use Rattle.mass_operator.specs.System.{System}
use Rattle.pairs.specs.Pairs.{pattern_of, pair_count, pair_limit}
use Rattle.pairs.specs.Answers.{judged_pairs, pairs_run}
use Rattle.incomplete_cholesky.specs.Build.{cholesky_run}
use Rattle.block_factor.specs.Blocks.{block_pivot, block_factor, cell_of}
use Rattle.block_factor.specs.Answers.{cell_run, block_column_turn, block_row_turn, rows_run, block_of}
use Rattle.preconditioner.specs.Factor.{block_at, block_judged, factor_judged}
use Rattle.preconditioner.specs.Apply.{preconditioned}
use Rattle.preconditioner.specs.Shift.{shifted}
use Rattle.preconditioner.specs.declared.mode.Mode.{Mode}
use Rattle.preconditioner.specs.declared.mode.Mode.TheVariants as modes

-- "10. Mode 1 has more than 16,384 pairs" to "13. A pivot is not finite or at most MIN, or a factor is not finite."
module _ (P : ℕ → Type 0) (p10 : P 10) (p11 : P 11) (p12 : P 12) (p13 : P 13) where
  pairs_numbers : (s : System) → Among P (pairs_run s)
  unfolding pairs_run judged_pairs
  pairs_numbers s = among_cond P (ltb pair_limit (pair_count (pattern_of s) s.rows)) _ _ (among_ended P 10 p10) (among_check P _ _ _ (among_going P _) (among_ended P 12 p12))

  cholesky_numbers : (s : System) (diagonal : List Float) → Among P (cholesky_run s diagonal)
  unfolding cholesky_run
  cholesky_numbers s diagonal = among_next P (pairs_run s) _ (pairs_numbers s) (λ _ _. among_answered P 13 _ p13)

  cell_numbers : (l : List Float) (row column : ℕ) (v : Float) → Among P (cell_of l row column v)
  unfolding cell_of block_pivot block_factor
  cell_numbers l row column v = among_check P _ _ _ (among_cond P (eqb row column) _ _ (one _ _) (one _ _)) (among_ended P 12 p12)
    where
      one : (b : Bool) (x : Float) → Among P (check b (going x) (ended 13))
      one b x = among_check P _ _ _ (among_going P _) (among_ended P 13 p13)

  block_numbers_lem : (s : System) (start len : ℕ) → Among P (block_of s start len)
  unfolding block_of rows_run block_row_turn block_column_turn cell_run
  block_numbers_lem s start len = among_check P _ _ _ (among_turns P _ _ _ (λ row l. among_turns P _ _ _ (cell row))) eleven
    where
      eleven : {S : Type 0} → Among {S = S} P (ended 11)
      eleven = among_ended P 11 p11

      cell : (row column : ℕ) (l : List Float) → Among P (block_column_turn s start row column l)
      cell row column l = among_next P _ _ (among_check P _ _ _ (cell_numbers l row column _) eleven) (λ _ _. among_going P _)

  pub factor_numbers : (mode : Mode) (s : System) (owner : ℕ → ℕ) (diagonal : List Float) → Among P (factor_judged mode s owner diagonal)
  unfolding factor_judged block_judged block_at
  factor_numbers modes.Diagonal s owner diagonal = among_going P tt
  factor_numbers (modes.IncompleteCholesky shift) s owner diagonal = among_next P _ _ (cholesky_numbers s (shifted shift diagonal)) (λ _ _. among_going P tt)
  factor_numbers modes.BlockJacobi s owner diagonal =
      among_judged P _ _ (λ i. among_check P _ _ _ (among_next P _ _ (block_numbers_lem s i _) (λ _ _. among_going P tt)) (among_going P tt))

-- "16. A number in the recurrence is not finite."
pub z_numbers : (P : ℕ → Type 0) → P 16 → (mode : Mode) (s : System) (owner : ℕ → ℕ) (diagonal residual : List Float) → Goes (factor_judged mode s owner diagonal) → Among P (preconditioned mode s owner diagonal residual)
unfolding factor_judged preconditioned
z_numbers P p modes.Diagonal s owner diagonal residual g = among_going P _
z_numbers P p (modes.IncompleteCholesky shift) s owner diagonal residual g =
    let (f, e, _) = (next_going (cholesky_run s (shifted shift diagonal)) _ g.0).0 g.1 in among_next P _ _ (λ n h. absurd (apart _ e h)) (λ _ _. among_answered P 16 _ p)
z_numbers P p modes.BlockJacobi s owner diagonal residual g = among_answered P 16 _ p
