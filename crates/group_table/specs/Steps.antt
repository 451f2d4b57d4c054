-- What the functions of src/pick.rt hand to one another.
use Rattle.std.specs.Prelude.{ℕ, ◌+◌, ◌*◌, ◌<◌, ◌≤◌, ◌≡◌, List, length, get_or}
use Rattle.group_table.specs.Pick.{rows_of, Marked}

-- `to` has, `width` numbers a row, the rows of `from` that `rows` names, one behind the other from the front; behind them it is as it was
pub record Picked {X : Type 0} (d : X) (width : ℕ) (rows : List ℕ) (from to₀ to : List X) : Type 0 where
  pub long : length to ≡ length to₀
  pub at : (k c : ℕ) → k < length rows → c < width → get_or to (width * k + c) d ≡ get_or from (width * get_or rows k 0 + c) d
  pub rest : (p : ℕ) → width * length rows ≤ p → get_or to p d ≡ get_or to₀ p d

-- `to` has the rows of `from`, `width` numbers each, at the rows of group g among the first n, and is elsewhere as it was
pub record Scattered {X : Type 0} (d : X) (width : ℕ) (groups : List ℕ) (g n : ℕ) (from to₀ to : List X) : Type 0 where
  pub long : length to ≡ length to₀
  pub at : (k c : ℕ) → k < length (rows_of groups g n) → c < width → get_or to (width * get_or (rows_of groups g n) k 0 + c) d ≡ get_or from (width * k + c) d
  pub others : (i c : ℕ) → c < width → (i < n → get_or groups i 0 ≡ g → ⊥) → get_or to (width * i + c) d ≡ get_or to₀ (width * i + c) d

-- `width` numbers of `from` from `at` on are copied to `put` on
pub record BlockCopied {X : Type 0} (d : X) (width at put : ℕ) (from to₀ to : List X) : Type 0 where
  pub long : length to ≡ length to₀
  pub here : (c : ℕ) → c < width → get_or to (put + c) d ≡ get_or from (at + c) d
  pub before : (p : ℕ) → p < put → get_or to p d ≡ get_or to₀ p d
  pub behind : (p : ℕ) → put + width ≤ p → get_or to p d ≡ get_or to₀ p d

-- the loop over the rows, at row i, with k of them counted
pub record Counting (groups : List ℕ) (g n i k : ℕ) : Type 0 where
  pub within : i ≤ n
  pub few : k ≤ i
  pub count : k ≡ length (rows_of groups g i)

pub record RowCounted (groups : List ℕ) (g i k r : ℕ) : Type 0 where
  pub more : (n : ℕ) → i < n → Counting groups g n i k → Counting groups g n (i + 1) r

-- there is room for one row more, where row i is of the group
pub record RoomFor (groups : List ℕ) (g i width k room : ℕ) : Type 0 where
  pub one : get_or groups i 0 ≡ g → width * k + width ≤ room

-- the loop over the rows, at row i, with k rows picked
pub record Picking {X : Type 0} (d : X) (width : ℕ) (groups : List ℕ) (g n i k : ℕ) (from to₀ to : List X) : Type 0 where
  pub within : i ≤ n
  pub few : k ≤ i
  pub count : k ≡ length (rows_of groups g i)
  pub picked : Picked d width (rows_of groups g i) from to₀ to

-- one row of it, which leads to `to` and r rows
pub record RowPicked {X : Type 0} (d : X) (width : ℕ) (groups : List ℕ) (g i k : ℕ) (from to₁ to : List X) (r : ℕ) : Type 0 where
  pub long : length to ≡ length to₁
  pub more : (n : ℕ) (to₀ : List X) → i < n → Picking d width groups g n i k from to₀ to₁ → Picking d width groups g n (i + 1) r from to₀ to

-- the same, where rows are put back
pub record Scattering {X : Type 0} (d : X) (width : ℕ) (groups : List ℕ) (g n i k : ℕ) (from to₀ to : List X) : Type 0 where
  pub within : i ≤ n
  pub few : k ≤ i
  pub count : k ≡ length (rows_of groups g i)
  pub scattered : Scattered d width groups g i from to₀ to

pub record RowScattered {X : Type 0} (d : X) (width : ℕ) (groups : List ℕ) (g i k : ℕ) (from to₁ to : List X) (r : ℕ) : Type 0 where
  pub long : length to ≡ length to₁
  pub more : (n : ℕ) (to₀ : List X) → i < n → Scattering d width groups g n i k from to₀ to₁ → Scattering d width groups g n (i + 1) r from to₀ to

-- and where marked rows are copied
pub record RowMarked {X : Type 0} (d : X) (width : ℕ) (marks : List ℕ) (mark b : ℕ) (from to₁ to : List X) : Type 0 where
  pub long : length to ≡ length to₁
  pub more : (to₀ : List X) → Marked d width marks mark b from to₀ to₁ → Marked d width marks mark (b + 1) from to₀ to
