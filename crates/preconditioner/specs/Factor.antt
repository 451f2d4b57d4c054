-- The factor of each mode: document 01, "Factors and roots" and refusals 10 to 13. s is what the rows and masses give, owner the joint of each row, diagonal the (replaced) diagonal.
use Rattle.std.specs.Prelude.{ℕ, List, Float}
use Rattle.loops.specs.Run.{Run, going, next, check}
use Rattle.loops.specs.Judge.{judged}
use Rattle.mass_operator.specs.System.{System}
use Rattle.incomplete_cholesky.specs.Build.{cholesky_run}
use Rattle.block_factor.specs.Answers.{block_of}
use Rattle.block_jacobi.specs.Runs.{begins, run_length}
use Rattle.preconditioner.specs.Shift.{shifted}
use Rattle.preconditioner.specs.declared.mode.Mode.{Mode}
use Rattle.preconditioner.specs.declared.mode.Mode.TheVariants as modes

-- ---- mode 2: pcg.rs, build_velocity_block_jacobi_preconditioner
-- the block of the run that begins at row i: 11, 12, 13
unfoldable pub block_at : System → (ℕ → ℕ) → ℕ → Run (List Float) ℕ
block_at s owner i = block_of s i (run_length owner i s.rows)

unfoldable pub block_judged : System → (ℕ → ℕ) → ℕ → Run Unit ℕ
block_judged s owner i = check (begins owner i) (next (block_at s owner i) (λ _. going tt)) (going tt)

-- ---- "11 to 13 ... as the Rust meets them": in mode 2 run by run
unfoldable pub factor_judged : Mode → System → (ℕ → ℕ) → List Float → Run Unit ℕ
factor_judged modes.Diagonal s owner diagonal = going tt
factor_judged (modes.IncompleteCholesky shift) s owner diagonal = next (cholesky_run s (shifted shift diagonal)) (λ _. going tt)
factor_judged modes.BlockJacobi s owner diagonal = judged (block_judged s owner) s.rows
