-- Two systems that agree below their counts, with every row's bodies below the body count, have the same products, impulses, pairs, factors and z. Assumes nothing.
use Prim.Native.Nat.{ℕ, zero, suc, ◌+◌, ◌-◌, ◌<◌, ◌≤◌}
use mathlib.Core.Path.{◌≡◌, refl, ap, fun_ext}
use mathlib.Core.Bool.{Bool, true, false, cond, ◌&&◌}
use mathlib.Core.List.{List}
use mathlib.Core.Option.{none}
use native.Mathlib.Omega.{arith}
use lib.Dec.{eqb, ltb}
use lib.ListN.{length}
use lib.Ieee.{Float}
use borrow.Author.Tests.{ltb-true}
use Rattle.loops.proofs.Same.{turns_same, judged_same}
use Rattle.loops.proofs.Tabulate.{tabulate_same}
use Rattle.kapitsa_joint.specs.declared.row.RowJacobian.{RowJacobian}
use Rattle.kapitsa_joint.specs.declared.mass.SolverMass.{SolverMass}
use Rattle.mass_operator.specs.System.{System}
use Rattle.mass_operator.specs.Operator.{response_at, value_at}
use Rattle.mass_operator.specs.Flat.{flat_impulses, impulses_of, product_of}
use Rattle.mass_operator.proofs.Same.{impulse_same}
use Rattle.pairs.specs.Pairs.{pattern_of, row_pairs, pair_count, pair_of, pairs_of}
use Rattle.pairs.specs.Answers.{judged_pairs, pairs_run}
use Rattle.incomplete_cholesky.specs.Build.{cholesky_run}
use Rattle.block_factor.specs.Blocks.{block_value}
use Rattle.block_factor.specs.Answers.{cell_run, block_column_turn, block_row_turn, rows_run, block_of}
use Rattle.block_jacobi.specs.Runs.{begins, leading, run_length}
use Rattle.block_jacobi.specs.Blocks.{solve_turn, blocks_solve_run}
use Rattle.block_jacobi.proofs.RunsOf.{leading_le}
use Rattle.preconditioner.specs.Factor.{block_at, block_judged, factor_judged}
use Rattle.preconditioner.specs.Apply.{block_numbers, preconditioned}
use Rattle.preconditioner.specs.Shift.{shifted}
use Rattle.preconditioner.specs.declared.mode.Mode.{Mode}
use Rattle.preconditioner.specs.declared.mode.Mode.TheVariants as modes

-- s with other rows and masses
abbrev pub system_with : System → (ℕ → RowJacobian) → (ℕ → SolverMass) → System
system_with s jacobian mass = record { rows = s.rows; bodies = s.bodies; jacobian = jacobian; mass = mass }

pub record SystemsAgree (s : System) (jacobian : ℕ → RowJacobian) (mass : ℕ → SolverMass) : Type 0 where
  pub jacobians : (i : ℕ) → i < s.rows → jacobian i ≡ s.jacobian i
  pub masses : (b : ℕ) → b < s.bodies → mass b ≡ s.mass b
  pub a_below : (i : ℕ) → i < s.rows → (s.jacobian i).body_a < s.bodies
  pub b_below : (i : ℕ) → i < s.rows → (s.jacobian i).body_b < s.bodies

-- ---- counts of pairs
row_pairs_same : (f g : ℕ → ℕ → Bool) (i m : ℕ) → ((j : ℕ) → j < m → f i j ≡ g i j) → row_pairs f i m ≡ row_pairs g i m
unfolding row_pairs
row_pairs_same f g i zero e = refl
row_pairs_same f g i (suc m) e = rw (row_pairs_same f g i m (λ j h. e j (omega arith)), e m (omega arith))

pub pair_count_same : (f g : ℕ → ℕ → Bool) (n : ℕ) → ((i j : ℕ) → i < n → j < i → f i j ≡ g i j) → pair_count f n ≡ pair_count g n
unfolding pair_count
pair_count_same f g zero e = refl
pair_count_same f g (suc n) e = rw (pair_count_same f g n (λ i j h k. e i j (omega arith) k), row_pairs_same f g n n (λ j h. e n j (omega arith) h))

-- ---- runs of owners
leading_same : (f g : ℕ → Bool) (n : ℕ) → ((k : ℕ) → k < n → f k ≡ g k) → leading f n ≡ leading g n
unfolding leading
leading_same f g zero e = refl
leading_same f g (suc n) e = rw (leading_same f g n (λ k h. e k (omega arith)), e n (omega arith))

pub run_few : (owner : ℕ → ℕ) (i n : ℕ) → run_length owner i n ≤ n - i
unfolding run_length
run_few owner i n = leading_le (λ k. eqb (owner (i + k)) (owner i)) (n - i)

module _ (f g : ℕ → ℕ) (n : ℕ) (e : (i : ℕ) → i < n → f i ≡ g i) where
  run_length_same : (i : ℕ) → run_length f i n ≡ run_length g i n
  unfolding run_length
  run_length_same i = leading_same (λ k. eqb (f (i + k)) (f i)) (λ k. eqb (g (i + k)) (g i)) (n - i) (λ k h. rw (e (i + k) (omega arith), e i (omega arith)))

  begins_same : (i : ℕ) → i < n → begins f i ≡ begins g i
  unfolding begins
  begins_same zero h = refl
  begins_same (suc i) h = rw (e (suc i) h, e i (omega arith))

module _ (s : System) (jacobian : ℕ → RowJacobian) (mass : ℕ → SolverMass) (w : SystemsAgree s jacobian mass) where
  -- ---- the operator
  module _ (x y : ℕ → Float) (e : (i : ℕ) → i < s.rows → y i ≡ x i) where
    response_same : (b : ℕ) → b < s.bodies → response_at (system_with s jacobian mass) y b ≡ response_at s x b
    unfolding response_at
    response_same b k = rw (w.masses b k, impulse_same jacobian s.jacobian y x b s.rows w.jacobians e)

    pub value_same : (i : ℕ) → i < s.rows → value_at (system_with s jacobian mass) y i ≡ value_at s x i
    unfolding value_at
    value_same i k = rw (w.jacobians i k, response_same (s.jacobian i).body_a (w.a_below i k), response_same (s.jacobian i).body_b (w.b_below i k))

  pub product_same : (x : ℕ → Float) → product_of (system_with s jacobian mass) x ≡ product_of s x
  unfolding product_of
  product_same x = tabulate_same (value_at (system_with s jacobian mass) x) (value_at s x) s.rows (value_same x x (λ i h. refl))

  pub impulses_same : (x : ℕ → Float) → impulses_of jacobian x s.rows s.bodies ≡ impulses_of s.jacobian x s.rows s.bodies
  unfolding impulses_of
  impulses_same x = ap (λ g. flat_impulses g s.bodies) (fun_ext (λ b. impulse_same jacobian s.jacobian x x b s.rows w.jacobians (λ i h. refl)))

  -- ---- pairs
  pattern_same : (i j : ℕ) → i < s.rows → j < s.rows → pattern_of (system_with s jacobian mass) i j ≡ pattern_of s i j
  unfolding pattern_of
  pattern_same i j k l = rw (w.jacobians i k, w.jacobians j l)

  pair_same : (i j : ℕ) → i < s.rows → j < s.rows → pair_of mass (jacobian j) (jacobian i) ≡ pair_of s.mass (s.jacobian j) (s.jacobian i)
  unfolding pair_of
  pair_same i j k l = rw (w.jacobians j l, w.jacobians i k, w.masses (s.jacobian j).body_a (w.a_below j l), w.masses (s.jacobian j).body_b (w.b_below j l))

  pairs_same : pairs_of (system_with s jacobian mass) ≡ pairs_of s
  unfolding pairs_of
  pairs_same = fun_ext (λ i. fun_ext (λ j. go i j (ltb i s.rows) refl (ltb j i) refl))
    where
      go : (i j : ℕ) (a : Bool) → ltb i s.rows ≡ a → (b : Bool) → ltb j i ≡ b → cond (ltb i s.rows && ltb j i) (pair_of mass (jacobian j) (jacobian i)) none ≡ cond (ltb i s.rows && ltb j i) (pair_of s.mass (s.jacobian j) (s.jacobian i)) none
      go i j true e true f = rw (e, f) (pair_same i j (ltb-true i s.rows e) (omega (arith, ltb-true i s.rows e, ltb-true j i f)))
      go i j true e false f = rw (e, f)
      go i j false e b f = rw e

  cholesky_same : (diagonal : List Float) → cholesky_run (system_with s jacobian mass) diagonal ≡ cholesky_run s diagonal
  unfolding cholesky_run pairs_run judged_pairs
  cholesky_same diagonal = rw (pair_count_same (pattern_of (system_with s jacobian mass)) (pattern_of s) s.rows (λ i j k l. pattern_same i j k (omega arith)), pairs_same)

  -- ---- blocks
  column_same : (start row column : ℕ) (l : List Float) → start + row < s.rows → start + column < s.rows → block_column_turn (system_with s jacobian mass) start row column l ≡ block_column_turn s start row column l
  unfolding block_column_turn cell_run block_value
  column_same start row column l k o =
      rw (w.jacobians (start + row) k, w.jacobians (start + column) o, w.masses (s.jacobian (start + row)).body_a (w.a_below (start + row) k), w.masses (s.jacobian (start + row)).body_b (w.b_below (start + row) k))

  row_same : (start row : ℕ) (l : List Float) → start + row < s.rows → block_row_turn (system_with s jacobian mass) start row l ≡ block_row_turn s start row l
  unfolding block_row_turn
  row_same start row l k = turns_same (block_column_turn (system_with s jacobian mass) start row) (block_column_turn s start row) l (row + 1) (λ column t o. column_same start row column t k (omega arith))

  block_same : (start len : ℕ) → len ≤ s.rows - start → block_of (system_with s jacobian mass) start len ≡ block_of s start len
  unfolding block_of rows_run
  block_same start len k = rw (turns_same (block_row_turn (system_with s jacobian mass) start) (block_row_turn s start) _ len (λ row t o. row_same start row t (omega arith)))

  -- ---- factors and z, with owners that agree
  module _ (owner own : ℕ → ℕ) (e : (i : ℕ) → i < s.rows → own i ≡ owner i) where
    block_at_same : (i : ℕ) → block_at (system_with s jacobian mass) own i ≡ block_at s owner i
    unfolding block_at
    block_at_same i = rw (run_length_same own owner s.rows e i) (block_same i (run_length owner i s.rows) (run_few owner i s.rows))

  module _ (owner own : ℕ → ℕ) where
    pub factor_same : (mode : Mode) → (mode ≡ modes.BlockJacobi → (i : ℕ) → i < s.rows → own i ≡ owner i) → (diagonal : List Float) → factor_judged mode (system_with s jacobian mass) own diagonal ≡ factor_judged mode s owner diagonal
    unfolding factor_judged block_judged
    factor_same modes.Diagonal e diagonal = refl
    factor_same (modes.IncompleteCholesky shift) e diagonal = rw (cholesky_same (shifted shift diagonal))
    factor_same modes.BlockJacobi e diagonal = judged_same _ _ s.rows (λ i k. rw (begins_same own owner s.rows (e refl) i k, block_at_same owner own (e refl) i))

    pub preconditioned_same : (mode : Mode) → (mode ≡ modes.BlockJacobi → (i : ℕ) → i < s.rows → own i ≡ owner i) → (diagonal residual : List Float) → length residual ≡ s.rows → preconditioned mode (system_with s jacobian mass) own diagonal residual ≡ preconditioned mode s owner diagonal residual
    unfolding preconditioned blocks_solve_run solve_turn
    preconditioned_same modes.Diagonal e diagonal residual l = refl
    preconditioned_same (modes.IncompleteCholesky shift) e diagonal residual l = rw (cholesky_same (shifted shift diagonal))
    preconditioned_same modes.BlockJacobi e diagonal residual l =
        let f : (i : ℕ) → i < length residual → own i ≡ owner i = λ i k. e refl i (omega arith) in
        let b : ◌≡◌ {A = ℕ → List Float} (λ i. block_numbers (block_at (system_with s jacobian mass) own i)) (λ i. block_numbers (block_at s owner i)) = fun_ext (λ i. ap block_numbers (block_at_same owner own (e refl) i)) in
        rw b (rw (turns_same (solve_turn (λ i. block_numbers (block_at s owner i)) own residual) (solve_turn (λ i. block_numbers (block_at s owner i)) owner residual) _ (length residual) (λ i t k. rw (begins_same own owner (length residual) f i k, run_length_same own owner (length residual) f i))))
