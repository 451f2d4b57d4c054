-- Incomplete Cholesky factors on a pattern: Meijerink and van der Vorst 1977, with roots; pcg.rs, build_incomplete_cholesky_preconditioner_into.
-- Document 01, "Factors and roots". A Run that has ended met refusal 13, and carries the numbers as they then stand.
use Rattle.std.specs.Prelude.{ℕ, Bool, not, ◌&&◌, List, get_or, set, length, Float}
use Rattle.std.proofs.Math.Option.{Option, none, some}
use Rattle.std.specs.Float.{nan, binary64}
use Rattle.std.specs.Float.Ieee.{sub, mul, div, le}
use Rattle.std.specs.Float.Ieee.Scale.{finite}
use Rattle.loops.specs.Run.{Run, going, ended, on, turns, check}
use Rattle.binary64.specs.Order.{min_positive}
use Rattle.binary64.specs.Answer.{root_of}
use Rattle.sparse.specs.Count.{count}
use Rattle.sparse.specs.Triangle.{Sparse, put}

-- ---- factors

-- v less the product of two numbers that are both there, one rounding each
unfoldable pub less : Option Float → Option Float → Float → Float
less (some x) (some y) v = sub binary64 v (mul binary64 x y)
less (some x) none v = v
less none y v = v

-- column k of rows i and j
unfoldable pub less_turn : Sparse → ℕ → ℕ → ℕ → Float → Float
less_turn L i j k = less (L i k) (L j k)

-- "from the pair value, subtract products over common earlier columns, ascending, one rounding each"
unfoldable pub reduced_of : Sparse → ℕ → ℕ → Float → Float
reduced_of L i j a = count (less_turn L i j) a j

-- "divide by the column's diagonal"
unfoldable pub quotient_of : Sparse → List Float → ℕ → ℕ → Float → Float
quotient_of L pivots i j a = div binary64 (reduced_of L i j a) (get_or pivots j nan)

-- "or a factor is not finite": x takes its place
unfoldable pub factored : Sparse → ℕ → ℕ → Float → Run Sparse Sparse
factored L i j x = check (finite x) (going (put L i j x)) (ended (put L i j x))

-- column j of row i, where the pattern has it with the pair value a
unfoldable pub column_of : List Float → ℕ → ℕ → Sparse → Option Float → Run Sparse Sparse
column_of pivots i j L (some a) = factored L i j (quotient_of L pivots i j a)
column_of pivots i j L none = going L

unfoldable pub column_turn : List Float → ℕ → ℕ → Sparse → Run Sparse Sparse
column_turn pivots i j L = column_of pivots i j L (L i j)

-- the factors of row i, columns ascending
unfoldable pub factors_run : List Float → ℕ → Sparse → Run Sparse Sparse
factors_run pivots i L = turns (column_turn pivots i) L i

-- ---- pivots

-- "Pivot: diagonal less each squared factor, ascending"
unfoldable pub squares_of : Sparse → ℕ → Float → Float
squares_of L i d = reduced_of L i i d

-- both in one: the factors of row i, and what they leave of its diagonal
unfoldable pub reduced_run : List Float → ℕ → Sparse → Run (Sparse × Float) Sparse
reduced_run pivots i L = on (factors_run pivots i L) (λ M. going (M, squares_of M i (get_or pivots i nan))) ended

-- refusal 13: "A pivot is not finite or at most MIN"
unfoldable pub fit : Float → Bool
fit x = finite x && not (le x min_positive)

-- "then the root"; refusal 19 is never met at a pivot that is fit (proofs/Fit.antt)
unfoldable pub root_value : Run Float ℕ → Float
root_value (going y) = y
root_value (ended n) = nan

abbrev pub Factor : Type 0
Factor = Sparse × List Float

unfoldable pub pivot_of : List Float → ℕ → Sparse → Float → Run Factor Factor
pivot_of pivots i L x = check (fit x) (going (L, set pivots i (root_value (root_of x)))) (ended (L, pivots))

-- ---- the factor

-- row i: its factors, then its pivot, which takes the place of its diagonal
unfoldable pub row_turn : ℕ → Factor → Run Factor Factor
row_turn i s = on (factors_run s.1 i s.0) (λ L. pivot_of s.1 i L (squares_of L i (get_or s.1 i nan))) (λ L. ended (L, s.1))

-- the factors in the place of the pair values, and the pivots in the place of the diagonal
unfoldable pub factor_run : Sparse → List Float → Run Factor Factor
factor_run pairs diagonal = turns row_turn (pairs, diagonal) (length diagonal)

-- the same with document 01's number where it is refused: "13. A pivot is not finite or at most MIN, or a factor is not finite."
abbrev pub or_thirteen : Run Factor Factor → Run Factor ℕ
or_thirteen r = on r going (λ _. ended 13)
