-- Document 01, "Blocks: runs of equal owner, at most 6 rows, all on one body_a and one body_b", over lent words.
use Rattle.std.specs.Prelude.{ℕ, ◌+◌, ◌*◌, Bool, true, ◌&&◌, List, leb, eqb, get_or}
use Rattle.loops.specs.Run.{check}
use Rattle.loops.specs.Every.{every}
use Rattle.block_jacobi.specs.Runs.{begins, run_length}

abbrev pub owner_at : List ℕ → ℕ → ℕ
owner_at words i = get_or words (8 * i + 6) 0

-- row start + k has the bodies of row `start`
abbrev pub pair_at : List ℕ → ℕ → ℕ → Bool
pair_at words start k = eqb (get_or words (8 * (start + k) + 2) 0) (get_or words (8 * start + 2) 0) && eqb (get_or words (8 * (start + k) + 3) 0) (get_or words (8 * start + 3) 0)

-- of the run that begins at row i, where one does
unfoldable pub run_in : List ℕ → ℕ → ℕ → Bool
run_in words rows i = let len = run_length (owner_at words) i rows in check (begins (owner_at words) i) (leb len 6 && every (pair_at words i) len) true
