-- Refusals 10 and 12 of the pairs, and what the lent slices then hold.
use Rattle.std.specs.Prelude.{ℕ, ◌+◌, ◌≡◌, cond, List, ltb, drop, replicate, Float}
use Rattle.loops.specs.Run.{Run, going, ended, on, check}
use Rattle.loops.specs.Cleared.{Free}
use Rattle.mass_operator.specs.System.{System}
use Rattle.sparse.specs.Triangle.{Sparse}
use Rattle.sparse.specs.Kept.{start, Kept, numbers}
use Rattle.pairs.specs.Pairs.{pattern_of, pair_count, pair_limit, pair_room, pairs_of, finite_pairs}

-- 10 is judged first: "10. Mode 1 has more than 16,384 pairs", "12. A pair value ... is not finite"
unfoldable pub judged_pairs : System → Sparse → Run Sparse ℕ
judged_pairs s pairs = cond (ltb pair_limit (pair_count (pattern_of s) s.rows)) (ended 10) (check (finite_pairs pairs s.rows) (going pairs) (ended 12))

unfoldable pub pairs_run : System → Run Sparse ℕ
pairs_run s = judged_pairs s (pairs_of s)

-- the same as an answer, which tells how many pairs there are
abbrev pub paired_in : System → Run Sparse ℕ → Run ℕ ℕ
paired_in s r = on r (λ _. going (pair_count (pattern_of s) s.rows)) ended

unfoldable pub paired_of : System → Run ℕ ℕ
paired_of s = paired_in s (pairs_run s)

-- the slices keep the triangle of pairs, in as many places as there are pairs
pub record Collected (s : System) (starts columns : List ℕ) (values : List Float) : Type 0 where
  pub kept : Kept starts columns
  pub pairs : numbers starts columns values ≡ pairs_of s
  pub places : start starts s.rows ≡ pair_count (pattern_of s) s.rows

-- After 10 no value is touched, and starts and columns are 0. After 12 the pairs stand there as they do where there is no refusal.
pub record PairsHeld (s : System) (answer : Run ℕ ℕ) (values₀ : List Float) (starts columns : List ℕ) (values : List Float) : Type 0 where
  pub answered : answer ≡ paired_of s
  pub ten : answer ≡ ended 10 → values ≡ values₀
  pub ten_words : answer ≡ ended 10 → (starts ≡ replicate (s.rows + 1) 0) × (columns ≡ replicate (pair_room s.rows) 0)
  pub twelve : answer ≡ ended 12 → Collected s starts columns values
  pub done : (count : ℕ) → answer ≡ going count → Collected s starts columns values

-- what is left free, of `count` pairs: the columns and the values past their places
pub record PairsFree (rows count : ℕ) (pattern₀ pattern : List ℕ) (values₀ values : List Float) : Type 0 where
  pub columns_past : Free (drop (rows + 1 + count) pattern₀) (drop (rows + 1 + count) pattern)
  pub values_past : Free (drop count values₀) (drop count values)
