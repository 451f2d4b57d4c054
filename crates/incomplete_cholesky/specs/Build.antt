-- Mode 1: pairs, factor and index in one. pcg.rs, build_incomplete_cholesky_preconditioner_into.
use Rattle.std.specs.Prelude.{ℕ, ◌+◌, ◌*◌, ◌≡◌, List, take, drop, replicate, Float}
use Rattle.loops.specs.Run.{Run, going, ended, next}
use Rattle.loops.specs.Cleared.{Free}
use Rattle.mass_operator.specs.System.{System}
use Rattle.sparse.specs.Triangle.{Sparse}
use Rattle.sparse.specs.Cholesky.{Factor, factor_run, or_thirteen}
use Rattle.sparse.specs.Kept.{start, Kept, numbers}
use Rattle.triangular.specs.Column.{Indexed}
use Rattle.pairs.specs.Pairs.{pattern_of, pair_count, pair_room, pairs_of}
use Rattle.pairs.specs.Answers.{pairs_run, PairsFree}

-- the pairs, refused by 10 and 12, then their factor: "13. A pivot is not finite or at most MIN, or a factor is not finite."
-- diagonal is the (replaced) diagonal
unfoldable pub cholesky_run : System → List Float → Run Factor ℕ
cholesky_run s diagonal = next (pairs_run s) (λ L. or_thirteen (factor_run L diagonal))

-- what an answer and the slices at exit tell together: the refusal is document 01's number
abbrev pub build_out : Run ℕ ℕ → Sparse → List Float → Run Factor ℕ
build_out (going count) L pivots = going (L, pivots)
build_out (ended number) L pivots = ended number

abbrev pub finish_out : Run ℕ ℕ → Sparse → List Float → Run Factor Factor
finish_out (going count) L pivots = going (L, pivots)
finish_out (ended number) L pivots = ended (L, pivots)

-- the factor of pairs that the slices keep; its pivots take the place of the diagonal
pub record Finished (rows : ℕ) (diagonal₀ : List Float) (answer : Run ℕ ℕ) (starts columns order₀ order : List ℕ) (values₀ values diagonal : List Float) : Type 0 where
  pub answered : factor_run (numbers starts columns values₀) diagonal₀ ≡ finish_out answer (numbers starts columns values) diagonal
  pub indexed : (count : ℕ) → answer ≡ going count → Indexed starts columns order rows count
  pub refused : (number : ℕ) → answer ≡ ended number → (number ≡ 13) × (drop rows order ≡ drop rows order₀)

-- What the lent memory holds, after each answer. What it does not tell is `FactorPast`.
pub record FactorHeld (s : System) (diagonal₀ : List Float) (answer : Run ℕ ℕ) (starts columns order₀ order : List ℕ) (values₀ values diagonal : List Float) : Type 0 where
  pub answered : cholesky_run s diagonal₀ ≡ build_out answer (numbers starts columns values) diagonal
  pub pattern : (answer ≡ ended 10 → ⊥) → Kept starts columns × (start starts s.rows ≡ pair_count (pattern_of s) s.rows)
  pub indexed : (count : ℕ) → answer ≡ going count → Indexed starts columns order s.rows count
  pub ten : answer ≡ ended 10 → (order ≡ order₀) × (values ≡ values₀) × (diagonal ≡ diagonal₀)
  pub ten_words : answer ≡ ended 10 → (starts ≡ replicate (s.rows + 1) 0) × (columns ≡ replicate (pair_room s.rows) 0)
  pub twelve : answer ≡ ended 12 → (numbers starts columns values ≡ pairs_of s) × (order ≡ order₀) × (diagonal ≡ diagonal₀)
  pub thirteen : answer ≡ ended 13 → (factor_run (pairs_of s) diagonal₀ ≡ ended (numbers starts columns values, diagonal)) × (drop s.rows order ≡ drop s.rows order₀)

-- What is left free, of `count` pairs: except after 10 what stands past their places in columns and values; where there is no refusal the words of order past the index; after 13 the first words of order, one a row, which were the marks.
pub record FactorPast (rows count : ℕ) (pattern₀ pattern order₀ order : List ℕ) (values₀ values : List Float) : Type 0 where
  pub pairs : PairsFree rows count pattern₀ pattern values₀ values
  pub index : Free (drop (rows + 2 * count) order₀) (drop (rows + 2 * count) order)
  pub marks : Free (take rows order₀) (take rows order)
