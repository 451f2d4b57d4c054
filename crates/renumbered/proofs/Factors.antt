-- The factors of a system with its bodies under new numbers are the same: pattern, pairs and blocks ask of two bodies only whether they are one, and take the mass of each. A pair value is one cross or the sum of two, in the order of the lower row's bodies and not of their numbers. Assumes nothing.
use Prim.Native.Nat.{ℕ, ◌+◌, ◌-◌, ◌<◌, ◌≤◌}
use mathlib.Core.Path.{◌≡◌, refl, ap, fun_ext}
use mathlib.Core.Bool.{Bool, true, false, cond, ◌&&◌}
use mathlib.Core.List.{List}
use mathlib.Core.Option.{none}
use native.Mathlib.Omega.{arith}
use lib.Dec.{ltb}
use lib.Ieee.{Float}
use borrow.Author.Tests.{ltb-true}
use Rattle.loops.proofs.Same.{turns_same, judged_same}
use Rattle.mass_operator.specs.System.{System}
use Rattle.pairs.specs.Pairs.{shares_of, pattern_of, arm_of, pair_of, pairs_of}
use Rattle.pairs.specs.Answers.{judged_pairs, pairs_run}
use Rattle.incomplete_cholesky.specs.Build.{cholesky_run}
use Rattle.block_factor.specs.Blocks.{block_value, one_pair}
use Rattle.block_factor.specs.Answers.{cell_run, block_column_turn, block_row_turn, rows_run, block_of}
use Rattle.block_jacobi.specs.Runs.{run_length}
use Rattle.preconditioner.specs.Factor.{block_at, block_judged, factor_judged}
use Rattle.preconditioner.specs.Apply.{block_numbers, preconditioned}
use Rattle.preconditioner.specs.Shift.{shifted}
use Rattle.preconditioner.specs.declared.mode.Mode.{Mode}
use Rattle.preconditioner.specs.declared.mode.Mode.TheVariants as modes
use Rattle.theorems.proofs.Systems.{pair_count_same, run_few}
use Rattle.renumbered.specs.Renumber.{Renumbering}
use Rattle.renumbered.proofs.Operator.{renumbered_jacobian, renumbered_system, Inside, mass_back, same_a, same_b, same_aa, same_ab, same_ba, same_bb}

module _ (p q : ℕ → ℕ) (s : System) (r : Renumbering s.bodies p q) (w : Inside s) where
  -- ---- mode 1
  pattern_same : (i j : ℕ) → i < s.rows → j < s.rows → pattern_of (renumbered_system p q s) i j ≡ pattern_of s i j
  unfolding pattern_of shares_of renumbered_jacobian
  pattern_same i j k l = rw (same_aa p q s r w i j k l, same_ab p q s r w i j k l, same_ba p q s r w i j k l, same_bb p q s r w i j k l)

  arm_moved : (i b : ℕ) → i < s.rows → b < s.bodies → arm_of (renumbered_jacobian p (s.jacobian i)) (p b) ≡ arm_of (s.jacobian i) b
  unfolding arm_of renumbered_jacobian
  arm_moved i b k l = rw (same_a p q s r w i b k l, same_b p q s r w i b k l)

  pair_same : (i j : ℕ) → i < s.rows → j < s.rows → pair_of (λ b. s.mass (q b)) (renumbered_jacobian p (s.jacobian j)) (renumbered_jacobian p (s.jacobian i)) ≡ pair_of s.mass (s.jacobian j) (s.jacobian i)
  unfolding pair_of renumbered_jacobian
  pair_same i j k l =
      rw (arm_moved i (s.jacobian j).body_a k (w.a_below j l), arm_moved i (s.jacobian j).body_b k (w.b_below j l), mass_back p q s r w (s.jacobian j).body_a (w.a_below j l), mass_back p q s r w (s.jacobian j).body_b (w.b_below j l))

  pairs_same : pairs_of (renumbered_system p q s) ≡ pairs_of s
  unfolding pairs_of
  pairs_same = fun_ext (λ i. fun_ext (λ j. go i j (ltb i s.rows) refl (ltb j i) refl))
    where
      go : (i j : ℕ) (a : Bool) → ltb i s.rows ≡ a → (b : Bool) → ltb j i ≡ b
          → cond (ltb i s.rows && ltb j i) (pair_of (λ b. s.mass (q b)) (renumbered_jacobian p (s.jacobian j)) (renumbered_jacobian p (s.jacobian i))) none ≡ cond (ltb i s.rows && ltb j i) (pair_of s.mass (s.jacobian j) (s.jacobian i)) none
      go i j true e true f = rw (e, f) (pair_same i j (ltb-true i s.rows e) (omega (arith, ltb-true i s.rows e, ltb-true j i f)))
      go i j true e false f = rw (e, f)
      go i j false e b f = rw e

  cholesky_same : (diagonal : List Float) → cholesky_run (renumbered_system p q s) diagonal ≡ cholesky_run s diagonal
  unfolding cholesky_run pairs_run judged_pairs
  cholesky_same diagonal = rw (pair_count_same (pattern_of (renumbered_system p q s)) (pattern_of s) s.rows (λ i j k l. pattern_same i j k (omega arith)), pairs_same)

  -- ---- mode 2
  column_same : (start row column : ℕ) (l : List Float) → start + row < s.rows → start + column < s.rows → block_column_turn (renumbered_system p q s) start row column l ≡ block_column_turn s start row column l
  unfolding block_column_turn cell_run one_pair block_value renumbered_jacobian
  column_same start row column l k o =
      rw (same_aa p q s r w (start + row) (start + column) k o, same_bb p q s r w (start + row) (start + column) k o, mass_back p q s r w (s.jacobian (start + row)).body_a (w.a_below (start + row) k), mass_back p q s r w (s.jacobian (start + row)).body_b (w.b_below (start + row) k))

  row_same : (start row : ℕ) (l : List Float) → start + row < s.rows → block_row_turn (renumbered_system p q s) start row l ≡ block_row_turn s start row l
  unfolding block_row_turn
  row_same start row l k = turns_same (block_column_turn (renumbered_system p q s) start row) (block_column_turn s start row) l (row + 1) (λ column t o. column_same start row column t k (omega arith))

  block_same : (start len : ℕ) → len ≤ s.rows - start → block_of (renumbered_system p q s) start len ≡ block_of s start len
  unfolding block_of rows_run
  block_same start len k = rw (turns_same (block_row_turn (renumbered_system p q s) start) (block_row_turn s start) _ len (λ row t o. row_same start row t (omega arith)))

  module _ (owner : ℕ → ℕ) where
    block_at_same : (i : ℕ) → block_at (renumbered_system p q s) owner i ≡ block_at s owner i
    unfolding block_at
    block_at_same i = block_same i (run_length owner i s.rows) (run_few owner i s.rows)

    -- ---- the factor and z, of every mode
    pub factor_same : (mode : Mode) (diagonal : List Float) → factor_judged mode (renumbered_system p q s) owner diagonal ≡ factor_judged mode s owner diagonal
    unfolding factor_judged block_judged
    factor_same modes.Diagonal diagonal = refl
    factor_same (modes.IncompleteCholesky shift) diagonal = rw (cholesky_same (shifted shift diagonal))
    factor_same modes.BlockJacobi diagonal = judged_same _ _ s.rows (λ i k. rw (block_at_same i))

    pub z_same : (mode : Mode) (diagonal residual : List Float) → preconditioned mode (renumbered_system p q s) owner diagonal residual ≡ preconditioned mode s owner diagonal residual
    unfolding preconditioned
    z_same modes.Diagonal diagonal residual = refl
    z_same (modes.IncompleteCholesky shift) diagonal residual = rw (cholesky_same (shifted shift diagonal))
    z_same modes.BlockJacobi diagonal residual =
        let b : ◌≡◌ {A = ℕ → List Float} (λ i. block_numbers (block_at (renumbered_system p q s) owner i)) (λ i. block_numbers (block_at s owner i)) = fun_ext (λ i. ap block_numbers (block_at_same i)) in
        rw b
