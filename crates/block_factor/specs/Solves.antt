-- "In the solves, each block writes only its own stretch of the output". pcg.rs, apply_block_jacobi_preconditioner, on the stretch of one block.
use Rattle.std.specs.Prelude.{ℕ, ◌+◌, ◌*◌, ◌-◌, List, get_or, set, length, Float}
use Rattle.std.specs.Float.{nan, binary64}
use Rattle.std.specs.Float.Ieee.{sub, mul, div}
use Rattle.std.specs.Float.Ieee.Scale.{finite}
use Rattle.loops.specs.Run.{Run, going, ended, turns, check}
use Rattle.sparse.specs.Count.{count}

-- row r of the forward solve: the residual at r less the products with the earlier columns, ascending; by the pivot
unfoldable pub block_forward_less : List Float → List Float → ℕ → ℕ → Float → Float
block_forward_less l y row k v = sub binary64 v (mul binary64 (get_or l (row * 6 + k) nan) (get_or y k nan))

unfoldable pub block_forward_turn : List Float → List Float → ℕ → List Float → List Float
block_forward_turn l residual row y = set y row (div binary64 (count (block_forward_less l y row) (get_or residual row nan) row) (get_or l (row * 6 + row) nan))

-- row r of the backward solve: the output less the products with the rows below it, ascending; by the pivot; not finite: 16
unfoldable pub block_backward_less : List Float → List Float → ℕ → ℕ → Float → Float
block_backward_less l y row k v = sub binary64 v (mul binary64 (get_or l ((row + 1 + k) * 6 + row) nan) (get_or y (row + 1 + k) nan))

unfoldable pub block_backward_of : List Float → ℕ → ℕ → List Float → Run (List Float) (List Float)
block_backward_of l len row y =
    let x = div binary64 (count (block_backward_less l y row) (get_or y row nan) (len - 1 - row)) (get_or l (row * 6 + row) nan) in
    check (finite x) (going (set y row x)) (ended (set y row x))

unfoldable pub block_backward_turn : List Float → ℕ → ℕ → List Float → Run (List Float) (List Float)
block_backward_turn l len t y = block_backward_of l len (len - 1 - t) y

unfoldable pub block_backward_run : List Float → ℕ → List Float → Run (List Float) (List Float)
block_backward_run l len y = turns (block_backward_turn l len) y len

-- one block: residual and y are its stretches
unfoldable pub block_solve_run : List Float → List Float → List Float → Run (List Float) (List Float)
block_solve_run l residual y = block_backward_run l (length residual) (count (block_forward_turn l residual) y (length residual))
