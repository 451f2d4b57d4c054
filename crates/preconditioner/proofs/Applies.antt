-- The ways through the functions that make z from the residual. Assumes nothing.
use Prim.Native.Nat.{ℕ, ◌+◌, ◌*◌, ◌≤◌}
use mathlib.Core.Path.{◌≡◌, refl, sym, ap, ◌∙◌}
use mathlib.Core.List.{List}
use lib.ListN.{length, get_or, take}
use lib.Ieee.{Float, nan, binary64, div}
use native.Mathlib.Omega.{arith}
use Rattle.loops.specs.Run.{Run, going}
use Rattle.loops.specs.Cleared.{cleared, zeros}
use Rattle.loops.specs.Tabulate.{tabulate}
use Rattle.loops.proofs.Fill.{Fills}
use Rattle.loops.proofs.Tabulate.{filled_tabulate}
use Rattle.sparse.specs.Triangle.{Sparse}
use Rattle.sparse.specs.Kept.{numbers}
use Rattle.triangular.specs.Triangular.{solve_run}
use Rattle.triangular.specs.Column.{Indexed}
use Rattle.pairs.specs.Pattern.{starts_in, columns_in}
use Rattle.pairs.proofs.Parted.{rest_of, starts_lent, columns_lent, columns_lent_long}
use Rattle.block_jacobi.specs.Runs.{owner_in, RunsFit}
use Rattle.block_jacobi.specs.Blocks.{blocks_solve_run}
use Rattle.preconditioner.specs.Apply.{diagonal_solve_of, preconditioned_run}
use Rattle.preconditioner.specs.Room.{Memory}
use Rattle.preconditioner.specs.Held.{FactorReady, Ready}
use Rattle.preconditioner.specs.declared.apply.Preconditioner.{Preconditioner}
use Rattle.preconditioner.specs.declared.apply.Preconditioner.TheVariants as built

pub diagonal_solved : (residual diagonal output : List Float) (n i : ℕ) → Fills nan (λ k. div binary64 (get_or residual k nan) (get_or diagonal k nan)) n i output → length residual ≡ n → length residual ≤ i → output ≡ diagonal_solve_of residual diagonal
unfolding diagonal_solve_of
diagonal_solved residual diagonal output n i h e l = filled_tabulate h (omega arith) ∙ ap (tabulate (λ k. div binary64 (get_or residual k nan) (get_or diagonal k nan))) (sym e)

module _ (p : Preconditioner) (diagonal : List Float) (L : Sparse) (block : ℕ → List Float) (owner : ℕ → ℕ) (residual : List Float) where
  pub apply_diagonal : (y : List Float) → p ≡ built.Diagonal → y ≡ diagonal_solve_of residual diagonal → preconditioned_run p diagonal L block owner residual ≡ going y
  unfolding preconditioned_run
  apply_diagonal y t e = rw (t, e)

  -- what was lent is cleared first, and is as long as the residual
  module _ (y₀ y : List Float) (cleans : y ≡ cleared y₀) (long : length residual ≡ length y₀) where
    from_zeros : y ≡ zeros (length residual)
    from_zeros = cleans ∙ ap zeros (sym long)

    apply_factor : (count : ℕ) {o : Run (List Float) (List Float)} → p ≡ built.IncompleteCholesky count → solve_run L diagonal residual y ≡ o → preconditioned_run p diagonal L block owner residual ≡ o
    unfolding preconditioned_run
    apply_factor count t e = rw (t, ← from_zeros) e

    pub apply_blocks : {o : Run (List Float) (List Float)} → p ≡ built.BlockJacobi → blocks_solve_run block owner residual y ≡ o → preconditioned_run p diagonal L block owner residual ≡ o
    unfolding preconditioned_run
    apply_blocks t e = rw (t, ← from_zeros) e

-- ---- `solve_factor`: starts and columns are lent as two parts of the pattern
module _ (n count : ℕ) (m : Memory) (h : FactorReady n count m) where
  pub ends_within : n + 1 ≤ length m.pattern
  ends_within = omega (arith, h.pattern_long)

  pub columns_are : length (rest_of (n + 1) m.pattern) ≡ length m.values
  columns_are = sym (columns_lent_long n n refl m.pattern (length m.values) h.pattern_long)

  pub index_lent : Indexed (take (n + 1) m.pattern) (rest_of (n + 1) m.pattern) m.order n count
  index_lent = rw (starts_lent n n refl m.pattern, columns_lent n n refl m.pattern) h.indexed

  pub order_lent : length m.order ≡ n + 2 * length (rest_of (n + 1) m.pattern)
  order_lent = omega (arith, h.order_long, columns_are)

pub solved_lent : (n : ℕ) (pattern : List ℕ) (values pivots residual y : List Float) {o : Run (List Float) (List Float)} → solve_run (numbers (take (n + 1) pattern) (rest_of (n + 1) pattern) values) pivots residual y ≡ o → solve_run (numbers (starts_in n pattern) (columns_in n pattern) values) pivots residual y ≡ o
solved_lent n pattern values pivots residual y h = rw (← starts_lent n n refl pattern, ← columns_lent n n refl pattern) h

-- k rows are lent, as many as there are
pub factor_applied : (p : Preconditioner) (block : ℕ → List Float) (owner : ℕ → ℕ) (pattern : List ℕ) (values diagonal residual y₀ y : List Float) (k n count : ℕ) {o : Run (List Float) (List Float)} → p ≡ built.IncompleteCholesky count → k ≡ n → y ≡ cleared y₀ → length residual ≡ length y₀
    → solve_run (numbers (starts_in k pattern) (columns_in k pattern) values) diagonal residual y ≡ o → preconditioned_run p diagonal (numbers (starts_in n pattern) (columns_in n pattern) values) block owner residual ≡ o
factor_applied p block owner pattern values diagonal residual y₀ y k n count t e cleans long h = apply_factor p diagonal (numbers (starts_in n pattern) (columns_in n pattern) values) block owner residual y₀ y cleans long count t (rw (← e) h)

-- ---- what the solves are lent
module _ (p : Preconditioner) (n : ℕ) (m : Memory) (h : Ready p n m) where
  pub factor_lent : (count k : ℕ) → p ≡ built.IncompleteCholesky count → k ≡ n → FactorReady k count m
  factor_lent count k t e = rw e (h.factor count t)

  pub blocks_lent : p ≡ built.BlockJacobi → (length m.pattern ≡ n) × (36 * n ≤ length m.values) × RunsFit (owner_in m.pattern) (length m.pattern)
  blocks_lent t = let b = h.blocks t in (b.pattern_long, omega (arith, b.values_long), rw b.pattern_long b.fits)
