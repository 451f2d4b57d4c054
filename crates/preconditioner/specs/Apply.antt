-- Document 01: "z is the mode's diagonal or factor solved on residual"; "16. A number in the recurrence is not finite." pcg.rs, apply_velocity_preconditioner, apply_block_jacobi_preconditioner.
use Rattle.std.specs.Prelude.{ℕ, List, [], get_or, length, Float}
use Rattle.std.specs.Float.{nan, binary64}
use Rattle.std.specs.Float.Ieee.{div}
use Rattle.loops.specs.Run.{Run, going, on, next}
use Rattle.loops.specs.Tabulate.{tabulate}
use Rattle.mass_operator.specs.System.{System}
use Rattle.sparse.specs.Triangle.{Sparse}
use Rattle.triangular.specs.Triangular.{solve_run, or_sixteen}
use Rattle.loops.specs.Cleared.{zeros}
use Rattle.incomplete_cholesky.specs.Build.{cholesky_run}
use Rattle.block_jacobi.specs.Blocks.{blocks_solve_run}
use Rattle.preconditioner.specs.Factor.{block_at}
use Rattle.preconditioner.specs.Shift.{shifted}
use Rattle.preconditioner.specs.declared.mode.Mode.{Mode}
use Rattle.preconditioner.specs.declared.mode.Mode.TheVariants as modes
use Rattle.preconditioner.specs.declared.apply.Preconditioner.{Preconditioner}
use Rattle.preconditioner.specs.declared.apply.Preconditioner.TheVariants as built

-- mode 0: each residual by its diagonal. The Rust tests nothing here: the dot product that follows meets what is not finite.
unfoldable pub diagonal_solve_of : List Float → List Float → List Float
diagonal_solve_of residual diagonal = tabulate (λ i. div binary64 (get_or residual i nan) (get_or diagonal i nan)) (length residual)

-- the numbers of a block that is there
abbrev pub block_numbers : Run (List Float) ℕ → List Float
block_numbers r = on r (λ l. l) (λ _. [])

unfoldable pub preconditioned : Mode → System → (ℕ → ℕ) → List Float → List Float → Run (List Float) ℕ
preconditioned modes.Diagonal s owner diagonal residual = going (diagonal_solve_of residual diagonal)
preconditioned (modes.IncompleteCholesky shift) s owner diagonal residual = next (cholesky_run s (shifted shift diagonal)) (λ f. or_sixteen (solve_run f.0 f.1 residual (zeros (length residual))))
preconditioned modes.BlockJacobi s owner diagonal residual = or_sixteen (blocks_solve_run (λ i. block_numbers (block_at s owner i)) owner residual (zeros (length residual)))

-- the same by what was built: diagonal, L, block and owner are what the lent memory holds. A Run that has ended met 16, and carries the numbers as they then stand.
unfoldable pub preconditioned_run : Preconditioner → List Float → Sparse → (ℕ → List Float) → (ℕ → ℕ) → List Float → Run (List Float) (List Float)
preconditioned_run built.Diagonal diagonal L block owner residual = going (diagonal_solve_of residual diagonal)
preconditioned_run (built.IncompleteCholesky count) diagonal L block owner residual = solve_run L diagonal residual (zeros (length residual))
preconditioned_run built.BlockJacobi diagonal L block owner residual = blocks_solve_run block owner residual (zeros (length residual))
