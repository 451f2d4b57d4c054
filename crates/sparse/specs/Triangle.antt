-- A sparse triangle below the diagonal, pattern and numbers in one.
use Rattle.std.specs.Prelude.{ℕ, ◌&&◌, cond, eqb, Float}
use Rattle.std.proofs.Math.Option.{Option, some}

-- The number in row i and column j < i, or none where the pattern has no pair (i, j). Document 01: a pair is there "even if the value is zero".
abbrev pub Sparse : Type 0
Sparse = ℕ → ℕ → Option Float

-- L with x in row i and column j
unfoldable pub put : Sparse → ℕ → ℕ → Float → Sparse
put L i j x a b = cond (eqb a i && eqb b j) (some x) (L a b)
