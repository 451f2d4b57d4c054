-- The factor of one block: rows and columns ascending, judged "as the Rust meets them".
use Rattle.std.specs.Prelude.{ℕ, ◌+◌, ◌*◌, List, leb, replicate, set, Float}
use Rattle.loops.specs.Run.{Run, going, ended, turns, check, next}
use Rattle.loops.specs.Cleared.{plus_zero}
use Rattle.mass_operator.specs.System.{System}
use Rattle.block_factor.specs.Blocks.{one_pair, block_value, less_of, cell_of}

-- row and column of the block that starts at row `start`: "11. Mode 2 meets a run ... with differing body pairs"
unfoldable pub cell_run : System → ℕ → ℕ → ℕ → List Float → Run Float ℕ
cell_run s start row column l =
    check (one_pair (s.jacobian (start + row)) (s.jacobian (start + column)))
    (cell_of l row column (less_of l row column (block_value s.mass (s.jacobian (start + row)) (s.jacobian (start + column))))) (ended 11)

unfoldable pub block_column_turn : System → ℕ → ℕ → ℕ → List Float → Run (List Float) ℕ
block_column_turn s start row column l = next (cell_run s start row column l) (λ x. going (set l (row * 6 + column) x))

unfoldable pub block_row_turn : System → ℕ → ℕ → List Float → Run (List Float) ℕ
block_row_turn s start row l = turns (block_column_turn s start row) l (row + 1)

-- the rows 0 .. len - 1 of the block
unfoldable pub rows_run : System → ℕ → ℕ → List Float → Run (List Float) ℕ
rows_run s start len l = turns (block_row_turn s start) l len

abbrev pub no_numbers : List Float
no_numbers = replicate 36 plus_zero

-- the block of the len rows from `start` on: "11. Mode 2 meets a run over 6 rows", before anything else of it
unfoldable pub block_of : System → ℕ → ℕ → Run (List Float) ℕ
block_of s start len = check (leb len 6) (rows_run s start len no_numbers) (ended 11)
