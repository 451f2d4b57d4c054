-- What the answer of a factor's function and the slices at exit tell together. A refusal is 13.
use Rattle.std.specs.Prelude.{ℕ, List, drop, Float, Result, Ok, Err}
use Rattle.loops.specs.Run.{Run, going, ended}
use Rattle.loops.specs.Cleared.{Free}
use Rattle.sparse.specs.Triangle.{Sparse}
use Rattle.sparse.specs.Cholesky.{Factor}
use Rattle.sparse.specs.declared.cholesky.Unfit.{Unfit}
use Rattle.refusals.specs.declared.Refusal.{Refusal}
use Rattle.refusals.specs.Number.{number_of}

abbrev pub column_out : Result Unit Unfit → Sparse → Run Sparse Sparse
column_out (Ok _) L = going L
column_out (Err _) L = ended L

abbrev pub reduced_out : Result Float Unfit → Sparse → Run (Sparse × Float) Sparse
reduced_out (Ok x) L = going (L, x)
reduced_out (Err _) L = ended L

abbrev pub factor_out : {E : Type 0} → Result Unit E → Sparse → List Float → Run Factor Factor
factor_out (Ok _) L pivots = going (L, pivots)
factor_out (Err _) L pivots = ended (L, pivots)

-- document 01's number of each answer
abbrev pub factored_out : Result Unit Refusal → Sparse → List Float → Run Factor ℕ
factored_out (Ok _) L pivots = going (L, pivots)
factored_out (Err refusal) L pivots = ended (number_of refusal)

-- What `factor` leaves free: the marks, and the values past the `count` places.
pub record FactorFree (count : ℕ) (values₀ values : List Float) (marks₀ marks : List ℕ) : Type 0 where
  pub values_past : Free (drop count values₀) (drop count values)
  pub all_marks : Free marks₀ marks
