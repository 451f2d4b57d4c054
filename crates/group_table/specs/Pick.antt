-- The rows of one group: which they are, their numbers as a list of their own, and their numbers in a table.
use Rattle.std.specs.Prelude.{ℕ, zero, suc, ◌+◌, ◌*◌, ◌/◌, ◌%◌, ◌<◌, ◌≡◌, cond, List, [], ◌∷◌, ◌++◌, eqb, length, get_or}
use Rattle.loops.specs.Tabulate.{tabulate}

-- the rows of group g among the first n, in order
unfoldable pub rows_of : List ℕ → ℕ → ℕ → List ℕ
rows_of groups g zero = []
rows_of groups g (suc n) = rows_of groups g n ++ cond (eqb (get_or groups n 0) g) (n ∷ []) []

-- what that list is: rising row numbers below n, those of group g and no others (`in_order`)
pub record InOrder (groups : List ℕ) (g n : ℕ) (rows : List ℕ) : Type 0 where
  pub below : (k : ℕ) → k < length rows → get_or rows k 0 < n
  pub group : (k : ℕ) → k < length rows → get_or groups (get_or rows k 0) 0 ≡ g
  pub rising : (k l : ℕ) → k < l → l < length rows → get_or rows k 0 < get_or rows l 0
  pub all : (i : ℕ) → i < n → get_or groups i 0 ≡ g → (k : ℕ) × (k < length rows) × (get_or rows k 0 ≡ i)

-- Document 02, g: "its rows alone, in their order": of a table with `width` numbers a row, those of the rows that `rows` names, one row behind the other
unfoldable pub pick_rows : {X : Type 0} → X → ℕ → List ℕ → List X → List X
pick_rows d width rows l = tabulate (λ p. get_or l (width * get_or rows (p / width) 0 + p % width) d) (width * length rows)

-- the rows of group g are those of `from`, and those of every other group as they were
pub record Put {X : Type 0} (d : X) (width : ℕ) (groups : List ℕ) (g n : ℕ) (from to₀ to : List X) : Type 0 where
  pub long : length to ≡ length to₀
  pub here : pick_rows d width (rows_of groups g n) to ≡ from
  pub others : (h : ℕ) → (h ≡ g → ⊥) → pick_rows d width (rows_of groups h n) to ≡ pick_rows d width (rows_of groups h n) to₀

-- of the first n rows of `width` numbers, those that bear this mark are those of `from`, and the others as they were
pub record Marked {X : Type 0} (d : X) (width : ℕ) (marks : List ℕ) (mark n : ℕ) (from to₀ to : List X) : Type 0 where
  pub long : length to ≡ length to₀
  pub at : (b c : ℕ) → b < n → c < width → get_or marks b 0 ≡ mark → get_or to (width * b + c) d ≡ get_or from (width * b + c) d
  pub others : (b c : ℕ) → c < width → (b < n → get_or marks b 0 ≡ mark → ⊥) → get_or to (width * b + c) d ≡ get_or to₀ (width * b + c) d
