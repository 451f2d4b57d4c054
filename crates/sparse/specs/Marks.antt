-- Where the current row has its columns, for the products over common columns: a word a column, never cleared while the rows go by.
use Rattle.std.specs.Prelude.{ℕ, ◌-◌, ◌<◌, ◌≤◌, ◌≡◌, cond, List, ltb, get_or, length, Float}
use Rattle.std.specs.Float.{nan, binary64}
use Rattle.std.specs.Float.Ieee.{sub, mul}
use Rattle.sparse.specs.Kept.{Missing}

-- no mark is above b
pub record AtMost (marks : List ℕ) (b : ℕ) : Type 0 where
  pub most : (k : ℕ) → get_or marks k 0 ≤ b

-- column k's mark is above a exactly where k is at one of the places a .. p - 1 of columns, and then it is that place + 1
pub record Marked (columns : List ℕ) (a p : ℕ) (marks : List ℕ) : Type 0 where
  pub most : (k : ℕ) → get_or marks k 0 ≤ p
  pub hit : (k : ℕ) → a < get_or marks k 0 → get_or columns (get_or marks k 0 - 1) 0 ≡ k
  pub miss : (k : ℕ) → k < length marks → get_or marks k 0 ≤ a → Missing columns a p k

-- what `less_at` computes
unfoldable pub less_at : Float → List ℕ → List Float → List ℕ → ℕ → ℕ → Float
less_at v columns values marks first q =
    let mark = get_or marks (get_or columns q 0) 0 in
    cond (ltb first mark) (sub binary64 v (mul binary64 (get_or values (mark - 1) nan) (get_or values q nan))) v
