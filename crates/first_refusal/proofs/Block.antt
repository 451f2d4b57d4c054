-- A factor of mode 2 that 11 turns back has a run that is too long or on several body pairs. Assumes nothing.
use Prim.Native.Nat.{ℕ, ◌+◌, ◌<◌}
use mathlib.Core.Path.{◌≡◌, refl, sym, ◌∙◌}
use mathlib.Core.Bool.{Bool, true, false, ◌&&◌, true≢false}
use mathlib.Core.List.{List}
use mathlib.Core.Logic.{◌⊎◌, inl, inr}
use native.Mathlib.Omega.{arith}
use lib.Dec.{leb, ltb, eqb}
use lib.Ieee.{Float}
use borrow.Author.Tests.{eqb-true, eq-eqb}
use Rattle.loops.specs.Run.{Run, going, ended, check, next}
use Rattle.loops.specs.Every.{every}
use Rattle.loops.proofs.Both.{both}
use Rattle.loops.proofs.Every.{every_iff}
use Rattle.loops.proofs.Judge.{judged_ended}
use Rattle.loops.proofs.Inverse.{apart, next_ended, turns_ended, saw_bool}
use Rattle.loops.proofs.Ranges.{Among, among_going, among_ended, among_next, among_check, among_cond, among_answered}
use Rattle.kapitsa_joint.specs.declared.row.RowJacobian.{RowJacobian}
use Rattle.mass_operator.specs.System.{System}
use Rattle.pairs.specs.Pairs.{pattern_of, pair_count, pair_limit}
use Rattle.pairs.specs.Answers.{judged_pairs, pairs_run}
use Rattle.incomplete_cholesky.specs.Build.{cholesky_run}
use Rattle.block_factor.specs.Blocks.{one_pair, block_pivot, block_factor, cell_of}
use Rattle.block_factor.specs.Answers.{cell_run, block_column_turn, block_row_turn, rows_run, block_of}
use Rattle.block_jacobi.specs.Runs.{begins, run_length}
use Rattle.preconditioner.specs.Factor.{block_at, block_judged, factor_judged}
use Rattle.preconditioner.specs.Shift.{shifted}
use Rattle.preconditioner.specs.declared.mode.Mode.{Mode}
use Rattle.preconditioner.specs.declared.mode.Mode.TheVariants as modes

-- ---- the other numbers
abbrev pub Other : ℕ → Type 0
Other n = n ≡ 11 → ⊥

pairs_other : (s : System) → Among Other (pairs_run s)
unfolding pairs_run judged_pairs
pairs_other s = among_cond Other (ltb pair_limit (pair_count (pattern_of s) s.rows)) _ _ (among_ended Other 10 (λ z. omega arith)) (among_check Other _ _ _ (among_going Other _) (among_ended Other 12 (λ z. omega arith)))

cholesky_other : (s : System) (diagonal : List Float) → Among Other (cholesky_run s diagonal)
unfolding cholesky_run
cholesky_other s diagonal = among_next Other (pairs_run s) _ (pairs_other s) (λ _ _. among_answered Other 13 _ (λ z. omega arith))

cell_other : (l : List Float) (row column : ℕ) (v : Float) → Among Other (cell_of l row column v)
unfolding cell_of block_pivot block_factor
cell_other l row column v = among_check Other _ _ _ (among_cond Other (eqb row column) _ _ (one _ _) (one _ _)) (among_ended Other 12 (λ z. omega arith))
  where
    one : (b : Bool) (x : Float) → Among Other (check b (going x) (ended 13))
    one b x = among_check Other _ _ _ (among_going Other _) (among_ended Other 13 (λ z. omega arith))

-- ---- the bodies of two rows that are those of a third
pair_three : (p q r : RowJacobian) → one_pair p r ≡ true → one_pair q r ≡ true → one_pair p q ≡ true
unfolding one_pair
pair_three p q r h k =
    let (a, b) = both (eqb p.body_a r.body_a) (eqb p.body_b r.body_b) h in
    let (c, d) = both (eqb q.body_a r.body_a) (eqb q.body_b r.body_b) k in
    rw (eq-eqb _ _ (eqb-true _ _ a ∙ sym (eqb-true _ _ c)), eq-eqb _ _ (eqb-true _ _ b ∙ sym (eqb-true _ _ d)))

module _ (s : System) (start : ℕ) where
  -- a cell that 11 turns back
  cell_11 : (row column : ℕ) (l : List Float) → cell_run s start row column l ≡ ended 11 → one_pair (s.jacobian (start + row)) (s.jacobian (start + column)) ≡ false
  unfolding cell_run check
  cell_11 row column l h = go (one_pair (s.jacobian (start + row)) (s.jacobian (start + column))) _ h
    where
      go : (b : Bool) (v : Float) → check b (cell_of l row column v) (ended 11) ≡ ended 11 → b ≡ false
      go true v q = absurd (cell_other l row column v 11 q refl)
      go false v q = refl

  pairs_11 : (len : ℕ) (l : List Float) → rows_run s start len l ≡ ended 11 → every (λ k. one_pair (s.jacobian (start + k)) (s.jacobian start)) len ≡ false
  unfolding rows_run block_row_turn block_column_turn
  pairs_11 len l h =
      let (row, t, a, _, e) = (turns_ended (block_row_turn s start) l len 11).0 h in
      let (column, u, b, _, f) = (turns_ended (block_column_turn s start row) t (row + 1) 11).0 e in
      go (saw_bool (every (λ k. one_pair (s.jacobian (start + k)) (s.jacobian start)) len)) row column a b (cell row column u _ ((next_ended (cell_run s start row column u) _ 11).0 f))
    where
      cell : (row column : ℕ) (u : List Float) (g : Float → List Float) → (cell_run s start row column u ≡ ended 11) ⊎ ((x : Float) × (cell_run s start row column u ≡ going x) × (◌≡◌ {A = Run (List Float) ℕ} (going (g x)) (ended 11))) → one_pair (s.jacobian (start + row)) (s.jacobian (start + column)) ≡ false
      cell row column u g (inl q) = cell_11 row column u q
      cell row column u g (inr (x, _, q)) = absurd (apart (going (g x)) refl q)

      go : (every (λ k. one_pair (s.jacobian (start + k)) (s.jacobian start)) len ≡ true) ⊎ (every (λ k. one_pair (s.jacobian (start + k)) (s.jacobian start)) len ≡ false) → (row column : ℕ) → row < len → column < row + 1
          → one_pair (s.jacobian (start + row)) (s.jacobian (start + column)) ≡ false → every (λ k. one_pair (s.jacobian (start + k)) (s.jacobian start)) len ≡ false
      go (inr q) row column a b f = q
      go (inl q) row column a b f =
          let each = (every_iff (λ k. one_pair (s.jacobian (start + k)) (s.jacobian start)) len).0 q in
          absurd (true≢false (sym (pair_three (s.jacobian (start + row)) (s.jacobian (start + column)) (s.jacobian start) (each row a) (each column (omega arith))) ∙ f))

  block_11 : (len : ℕ) → block_of s start len ≡ ended 11 → (leb len 6 && every (λ k. one_pair (s.jacobian (start + k)) (s.jacobian start)) len) ≡ false
  unfolding block_of check
  block_11 len h = go (leb len 6) _ h
    where
      go : (b : Bool) (z : List Float) → check b (rows_run s start len z) (ended 11) ≡ ended 11 → (b && every (λ k. one_pair (s.jacobian (start + k)) (s.jacobian start)) len) ≡ false
      go true z q = pairs_11 len z q
      go false z q = refl

abbrev done : Run Unit ℕ
done = going tt

-- the row at which such a run begins
pub factor_11 : (mode : Mode) (s : System) (owner : ℕ → ℕ) (diagonal : List Float) → factor_judged mode s owner diagonal ≡ ended 11
    → (i : ℕ) × (i < s.rows) × (begins owner i ≡ true) × ((leb (run_length owner i s.rows) 6 && every (λ k. one_pair (s.jacobian (i + k)) (s.jacobian i)) (run_length owner i s.rows)) ≡ false)
unfolding factor_judged block_judged block_at check
factor_11 modes.Diagonal s owner diagonal h = absurd (apart (going tt) refl h)
factor_11 (modes.IncompleteCholesky shift) s owner diagonal h = absurd (among_next Other _ _ (cholesky_other s (shifted shift diagonal)) (λ _ _. among_going Other tt) 11 h refl)
factor_11 modes.BlockJacobi s owner diagonal h =
    let (i, l, _, e) = (judged_ended (block_judged s owner) s.rows 11).0 h in
    let (b, q) = go (begins owner i) i refl e in
    (i, l, b, block_11 s i (run_length owner i s.rows) q)
  where
    inside : (i : ℕ) → next (block_of s i (run_length owner i s.rows)) (λ _. done) ≡ ended 11 → block_of s i (run_length owner i s.rows) ≡ ended 11
    inside i h = out ((next_ended (block_of s i (run_length owner i s.rows)) _ 11).0 h)
      where
        out : (block_of s i (run_length owner i s.rows) ≡ ended 11) ⊎ ((x : List Float) × (block_of s i (run_length owner i s.rows) ≡ going x) × (◌≡◌ {A = Run Unit ℕ} (going tt) (ended 11))) → block_of s i (run_length owner i s.rows) ≡ ended 11
        out (inl q) = q
        out (inr (x, _, q)) = absurd (apart (going tt) refl q)

    go : (b : Bool) (i : ℕ) → begins owner i ≡ b → check b (next (block_of s i (run_length owner i s.rows)) (λ _. done)) done ≡ ended 11 → (begins owner i ≡ true) × (block_of s i (run_length owner i s.rows) ≡ ended 11)
    go true i e q = (e, inside i q)
    go false i e q = absurd (apart (going tt) refl q)
