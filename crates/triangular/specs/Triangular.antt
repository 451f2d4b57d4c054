-- The two triangular solves with a factor L: L y = residual, then the transpose of L on y. pcg.rs, apply_velocity_preconditioner.
-- Document 01, "Here z is the mode's diagonal or factor solved on residual". A Run that has ended met refusal 16, and carries the numbers as they then stand.
use Rattle.std.specs.Prelude.{ℕ, ◌-◌, List, get_or, set, length, Float}
use Rattle.std.proofs.Math.Option.{Option, some}
use Rattle.std.specs.Float.{nan, binary64}
use Rattle.std.specs.Float.Ieee.{div}
use Rattle.std.specs.Float.Ieee.Scale.{finite}
use Rattle.loops.specs.Run.{Run, going, ended, on, next, turns, check}
use Rattle.sparse.specs.Count.{count}
use Rattle.sparse.specs.Triangle.{Sparse}
use Rattle.sparse.specs.Cholesky.{less}

-- column j of L, row by row
unfoldable pub transposed : Sparse → ℕ → ℕ → Option Float
transposed L j i = L i j

-- where l has a number at k, its product with y's is subtracted
unfoldable pub along_turn : (ℕ → Option Float) → List Float → ℕ → Float → Float
along_turn l y k = less (l k) (some (get_or y k nan))

-- x in row i; refusal 16 where it is not finite
unfoldable pub written : List Float → ℕ → Float → Run (List Float) (List Float)
written y i x = check (finite x) (going (set y i x)) (ended (set y i x))

-- row i, ascending: the residual less the products with the row's earlier columns, ascending; divided by the pivot
unfoldable pub forward_turn : Sparse → List Float → List Float → ℕ → List Float → Run (List Float) (List Float)
forward_turn L pivots residual i y = written y i (div binary64 (count (along_turn (L i) y) (get_or residual i nan) i) (get_or pivots i nan))

unfoldable pub forward_run : Sparse → List Float → List Float → List Float → Run (List Float) (List Float)
forward_run L pivots residual y = turns (forward_turn L pivots residual) y (length residual)

-- row i, descending: the output less the products with the lower rows that have column i, ascending; divided by the pivot
unfoldable pub backward_of : Sparse → List Float → ℕ → List Float → Run (List Float) (List Float)
backward_of L pivots i y = written y i (div binary64 (count (along_turn (transposed L i) y) (get_or y i nan) (length pivots)) (get_or pivots i nan))

unfoldable pub backward_turn : Sparse → List Float → ℕ → List Float → Run (List Float) (List Float)
backward_turn L pivots t y = backward_of L pivots (length pivots - 1 - t) y

unfoldable pub backward_run : Sparse → List Float → List Float → Run (List Float) (List Float)
backward_run L pivots y = turns (backward_turn L pivots) y (length pivots)

-- the preconditioned residual, in the place of what stood in y
unfoldable pub solve_run : Sparse → List Float → List Float → List Float → Run (List Float) (List Float)
solve_run L pivots residual y = next (forward_run L pivots residual y) (backward_run L pivots)

-- a solve with document 01's number where it is refused: "16. A number in the recurrence is not finite."
abbrev pub or_sixteen : Run (List Float) (List Float) → Run (List Float) ℕ
or_sixteen r = on r going (λ _. ended 16)
