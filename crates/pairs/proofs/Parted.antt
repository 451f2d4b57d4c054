-- A list parted in two: what stands in each part after the second was lent and came back, or after one number of the first was written. With it the two parts of a pattern. Assumes nothing.
use Prim.Native.Nat.{ℕ, ◌+◌, ◌-◌, ◌<◌, ◌≤◌}
use mathlib.Core.Path.{◌≡◌, sym, ap, ◌∙◌}
use mathlib.Core.List.{List, ◌++◌, append-nil}
use native.Mathlib.Omega.{arith}
use lib.ListN.{length, take, drop, set, replicate, length-drop, length-replicate, replicate-append-replicate, drop_of_length-le}
use lib.Seq.{take_all, take_at, drop_at, length-take-le, take-set-lt, drop-set-lt}
use Rattle.loops.specs.Cleared.{cleared_words}
use Rattle.sparse.specs.Kept.{Kept}
use Rattle.pairs.specs.Pattern.{starts_in, columns_in}

-- what `&l[a..]` and `&mut l[a..]` lend, and l after the latter came back as x
abbrev pub rest_of : {X : Type 0} → ℕ → List X → List X
rest_of a l = take (length l - a) (drop a l)

abbrev pub with_rest : {X : Type 0} → ℕ → List X → List X → List X
with_rest a l x = take a l ++ (x ++ drop (length l - a) (drop a l))

-- how many `&l[..a]` and `&mut l[..a]` lend
pub front_count : {X : Type 0} (a : ℕ) (l : List X) → a ≤ length l → a ≡ length (take a l)
front_count a l h = sym (length-take-le a l h)

pub rest_is : {X : Type 0} (a : ℕ) (l : List X) → rest_of a l ≡ drop a l
rest_is a l = take_all (length l - a) (drop a l) (rw length-drop (omega arith))

module _ {X : Type 0} (a : ℕ) (l x : List X) (h : a ≤ length l) where
  pub front_stays : take a (with_rest a l x) ≡ take a l
  front_stays = take_at (take a l) (x ++ drop (length l - a) (drop a l)) a (length-take-le a l h)

  pub rest_comes : drop a (with_rest a l x) ≡ x
  rest_comes =
      drop_at (take a l) (x ++ drop (length l - a) (drop a l)) a (length-take-le a l h)
      ∙ ap (λ (y : List X). x ++ y) (drop_of_length-le (drop a l) {i = length l - a} (rw length-drop (omega arith)))
      ∙ append-nil x

-- ---- the pattern of n rows; w is n in 64 bits
pub starts_long : (n : ℕ) (pattern : List ℕ) → n + 1 ≤ length pattern → length (starts_in n pattern) ≡ n + 1
unfolding starts_in
starts_long n pattern h = length-take-le (n + 1) pattern h

pub columns_long : (n k : ℕ) (pattern : List ℕ) → length pattern ≡ n + 1 + k → length (columns_in n pattern) ≡ k
unfolding columns_in
columns_long n k pattern h = rw length-drop (omega arith)

-- one start is written
module _ (n i x : ℕ) (pattern : List ℕ) (h : i < n + 1) where
  pub starts_set : starts_in n (set pattern i x) ≡ set (starts_in n pattern) i x
  unfolding starts_in
  starts_set = take-set-lt (n + 1) pattern i x h

  pub columns_stay : columns_in n (set pattern i x) ≡ columns_in n pattern
  unfolding columns_in
  columns_stay = drop-set-lt (n + 1) pattern i x h

module _ (w n : ℕ) (ew : w ≡ n) (pattern : List ℕ) where
  pub starts_lent : take (w + 1) pattern ≡ starts_in n pattern
  unfolding starts_in
  starts_lent = rw ew

  pub columns_lent : rest_of (w + 1) pattern ≡ columns_in n pattern
  unfolding columns_in
  columns_lent = rw ew (rest_is (n + 1) pattern)

  -- the columns come back as x
  module _ (x : List ℕ) (h : n + 1 ≤ length pattern) where
    pub starts_stay : starts_in n (with_rest (w + 1) pattern x) ≡ starts_in n pattern
    unfolding starts_in
    starts_stay = rw ew (front_stays (n + 1) pattern x h)

    pub columns_come : columns_in n (with_rest (w + 1) pattern x) ≡ x
    unfolding columns_in
    columns_come = rw ew (rest_comes (n + 1) pattern x h)

-- what a function that reads starts and columns asks of the parts that it is lent
module _ (w n : ℕ) (ew : w ≡ n) (pattern : List ℕ) where
  pub kept_lent : Kept (starts_in n pattern) (columns_in n pattern) → Kept (take (w + 1) pattern) (rest_of (w + 1) pattern)
  kept_lent h = rw (starts_lent w n ew pattern, columns_lent w n ew pattern) h

  pub starts_lent_long : (k : ℕ) → length pattern ≡ n + 1 + k → length (take (w + 1) pattern) ≡ n + 1
  starts_lent_long k h = rw (starts_lent w n ew pattern) (starts_long n pattern (omega arith))

  pub columns_lent_long : (k : ℕ) → length pattern ≡ n + 1 + k → k ≡ length (rest_of (w + 1) pattern)
  columns_lent_long k h = rw (columns_lent w n ew pattern) (sym (columns_long n k pattern h))

-- all is cleared
module _ (n k : ℕ) (pattern pattern' : List ℕ) (h : length pattern ≡ n + 1 + k) (e : pattern' ≡ cleared_words pattern) where
  both : pattern' ≡ replicate (n + 1) 0 ++ replicate k 0
  both = e ∙ rw h (sym (replicate-append-replicate (n + 1) k 0))

  pub starts_cleared : starts_in n pattern' ≡ replicate (n + 1) 0
  unfolding starts_in
  starts_cleared = rw both (take_at (replicate (n + 1) 0) (replicate k 0) (n + 1) (length-replicate (n + 1) 0))

  pub columns_cleared : columns_in n pattern' ≡ replicate k 0
  unfolding columns_in
  columns_cleared = rw both (drop_at (replicate (n + 1) 0) (replicate k 0) (n + 1) (length-replicate (n + 1) 0))
