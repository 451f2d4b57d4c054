-- What the functions of src/group.rt hand to one another.
use Rattle.std.specs.Prelude.{ℕ, ◌+◌, ◌<◌, ◌≤◌, ◌≡◌, Bool, true, cond, List, ◌↔◌, eqb, length, get_or, set}
use Rattle.loops.specs.Cleared.{cleared_words}
use Rattle.groups.specs.Together.{Links, body_a, body_b, Has, Linked, Together, First, Grouped}

-- the first n of `l` are g 0 .. g (n - 1), and the others as they were in l₀
pub record Front (g : ℕ → ℕ) (n : ℕ) (l₀ l : List ℕ) : Type 0 where
  pub long : length l ≡ length l₀
  pub done : (k : ℕ) → k < n → get_or l k 0 ≡ g k
  pub rest : (k : ℕ) → n ≤ k → get_or l k 0 ≡ get_or l₀ k 0

-- one label put for another
unfoldable pub renamed : ℕ → ℕ → ℕ → ℕ
renamed from to x = cond (eqb x from) to x

-- labels of bodies, after the first k rows have joined theirs: joining bodies have one label only where their rows belong together, and the two of a row always
pub record Labels (links : Links) (joining : ℕ → Bool) (rows bodies k : ℕ) (labels : List ℕ) : Type 0 where
  pub low : (b : ℕ) → b < bodies → get_or labels b 0 < bodies
  pub met : (r : ℕ) → r < k → joining (body_a links r) ≡ true → joining (body_b links r) ≡ true → get_or labels (body_a links r) 0 ≡ get_or labels (body_b links r) 0
  pub sound : (x y i j : ℕ) → x < bodies → y < bodies → joining x ≡ true → joining y ≡ true → get_or labels x 0 ≡ get_or labels y 0 → i < rows → j < rows → Has links i x → Has links j y → Together links joining rows i j

-- one row joins its bodies
pub record RowJoined (links : Links) (joining : ℕ → Bool) (bodies i : ℕ) (labels₀ labels : List ℕ) : Type 0 where
  pub long : length labels ≡ length labels₀
  pub more : (rows : ℕ) → i < rows → Linked links rows bodies → Labels links joining rows bodies i labels₀ → Labels links joining rows bodies (i + 1) labels

-- a row's key: the label of a joining body, or a number of its own
unfoldable pub key_of : Links → (ℕ → Bool) → ℕ → List ℕ → ℕ → ℕ
key_of links joining bodies labels i = cond (joining (body_a links i)) (get_or labels (body_a links i) 0) (cond (joining (body_b links i)) (get_or labels (body_b links i) 0) (bodies + i))

-- numbering: the first i of `keys` have their number in `groups`; `table` has, of each key that was met, its number and one, and 0 of the others
pub record Part (keys : List ℕ) (i : ℕ) (groups table : List ℕ) (count : ℕ) : Type 0 where
  pub few : count ≤ i
  pub rest : (r : ℕ) → i ≤ r → get_or groups r 0 ≡ get_or keys r 0
  pub seen : (r : ℕ) → r < i → get_or table (get_or keys r 0) 0 ≡ get_or groups r 0 + 1
  pub apart : (x y : ℕ) → 0 < get_or table x 0 → get_or table x 0 ≡ get_or table y 0 → x ≡ y
  pub top : (x : ℕ) → get_or table x 0 ≤ count
  pub first : (g : ℕ) → g < count → (r : ℕ) × (r < i) × (get_or groups r 0 ≡ g) × ((j : ℕ) → j < r → get_or groups j 0 < g)

-- one row is numbered
pub record RowNumbered (i : ℕ) (groups₀ table₀ : List ℕ) (count₀ : ℕ) (groups table : List ℕ) (count : ℕ) : Type 0 where
  pub long_groups : length groups ≡ length groups₀
  pub long_table : length table ≡ length table₀
  pub more : (keys : List ℕ) → Part keys i groups₀ table₀ count₀ → Part keys (i + 1) groups table count

-- the first n of `groups` number the first n of `keys` by lowest row
pub record Numbered (keys groups : List ℕ) (n count : ℕ) : Type 0 where
  pub few : count ≤ n
  pub long : length groups ≡ length keys
  pub rest : (i : ℕ) → n ≤ i → get_or groups i 0 ≡ get_or keys i 0
  pub same : (i j : ℕ) → i < n → j < n → (get_or groups i 0 ≡ get_or groups j 0) ↔ (get_or keys i 0 ≡ get_or keys j 0)
  pub below : (i : ℕ) → i < n → get_or groups i 0 < count
  pub first : (g : ℕ) → g < count → (i : ℕ) × First groups n g i
  pub ordered : (g h i j : ℕ) → g < h → First groups n g i → First groups n h j → i < j

-- the first n keys are below m
pub record KeysBelow (keys : List ℕ) (n m : ℕ) : Type 0 where
  pub at : (i : ℕ) → i < n → get_or keys i 0 < m

-- a table of zeros
pub record Zeros (table : List ℕ) : Type 0 where
  pub at : (x : ℕ) → get_or table x 0 ≡ 0

-- every word has become 0
pub record Zeroed (l₀ l : List ℕ) : Type 0 where
  pub all : l ≡ cleared_words l₀

-- as long as it was, and from n on as it was
pub record Unchanged (n : ℕ) (l₀ l : List ℕ) : Type 0 where
  pub long : length l ≡ length l₀
  pub rest : (i : ℕ) → n ≤ i → get_or l i 0 ≡ get_or l₀ i 0

-- ---- the group of each body, once the first k rows have told it: its number and one, and 0 of a body that none of them joins
pub record Marks (links : Links) (joining : ℕ → Bool) (k : ℕ) (groups marks : List ℕ) : Type 0 where
  pub some : (i b : ℕ) → i < k → Has links i b → joining b ≡ true → get_or marks b 0 ≡ get_or groups i 0 + 1
  pub none : (b : ℕ) → ((i : ℕ) → i < k → Has links i b → joining b ≡ true → ⊥) → get_or marks b 0 ≡ 0

-- a body that joins gets its mark
unfoldable pub marked_by : (ℕ → Bool) → ℕ → ℕ → List ℕ → List ℕ
marked_by joining b mark marks = cond (joining b) (set marks b mark) marks

-- both bodies of row i get theirs
pub record RowMarked (links : Links) (joining : ℕ → Bool) (i : ℕ) (groups marks₀ marks : List ℕ) : Type 0 where
  pub long : length marks ≡ length marks₀
  pub more : (rows count bodies : ℕ) → i < rows → bodies ≤ length marks₀ → Linked links rows bodies → Grouped links joining rows groups count → Marks links joining i groups marks₀ → Marks links joining (i + 1) groups marks
