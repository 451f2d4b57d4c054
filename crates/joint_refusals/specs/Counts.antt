-- Document 01, "3. The row count, body count or mode is beyond this paper, or a lent slice has not the length the counts call for", of the counts and of rows and masses. Each test is true where the refusal does not apply.
use Rattle.std.specs.Prelude.{ℕ, ◌*◌, Bool, ◌&&◌, leb, eqb}

-- "At most 512 rows, 256 bodies"
abbrev pub table_counts_fit : ℕ → ℕ → Bool
table_counts_fit rows bodies = leb rows 512 && leb bodies 256

-- "a mode: 0 diagonal, 1 incomplete Cholesky, 2 block Jacobi"
unfoldable pub counts_fit : ℕ → ℕ → ℕ → Bool
counts_fit rows bodies mode = table_counts_fit rows bodies && leb mode 2

-- "A row is 27 doubles ... and eight u32"; "a mass ten"
abbrev pub rows_fit : ℕ → ℕ → ℕ → ℕ → ℕ → Bool
rows_fit rows bodies numbers words masses = (eqb numbers (27 * rows) && eqb words (8 * rows)) && eqb masses (10 * bodies)
