-- How lent slices keep a sparse triangle (document 01: "Vec of Vec becomes lent flat slices with starts"): row i's columns and numbers are at the places starts i .. starts (i + 1) - 1.
use Rattle.std.specs.Prelude.{ℕ, zero, suc, ◌+◌, ◌-◌, ◌<◌, ◌≤◌, ◌≡◌, cond, List, eqb, get_or, length, Float}
use Rattle.std.proofs.Math.Option.{Option, none, some}
use Rattle.std.specs.Float.{nan}
use Rattle.sparse.specs.Triangle.{Sparse}

-- the places a .. b - 1 of l hold numbers below n, ascending
pub record Rising (l : List ℕ) (a b n : ℕ) : Type 0 where
  pub forward : a ≤ b
  pub below : (q : ℕ) → a ≤ q → q < b → get_or l q 0 < n
  pub ascending : (p q : ℕ) → a ≤ p → p < q → q < b → get_or l p 0 < get_or l q 0

-- k is at none of the places a .. b - 1 of l
pub record Missing (l : List ℕ) (a b k : ℕ) : Type 0 where
  pub nowhere : (q : ℕ) → a ≤ q → q < b → get_or l q 0 ≡ k → ⊥

abbrev pub start : List ℕ → ℕ → ℕ
start starts i = get_or starts i 0

-- starts (one more than there are rows) and columns keep a pattern: stretches one after the other, columns ascending, each before its row
pub record Kept (starts columns : List ℕ) : Type 0 where
  pub begin : start starts 0 ≡ 0
  pub order : (i j : ℕ) → i ≤ j → j < length starts → start starts i ≤ start starts j
  pub inside : (i : ℕ) → start starts i ≤ length columns
  pub row : (i : ℕ) → i + 1 < length starts → Rising columns (start starts i) (start starts (i + 1)) i

-- row i is at the places a .. b - 1
pub record Row (starts columns : List ℕ) (i a b : ℕ) : Type 0 where
  pub kept : Kept starts columns
  pub one : i + 1 < length starts
  pub from : a ≡ start starts i
  pub to : b ≡ start starts (i + 1)
  pub rising : Rising columns a b i
  pub inside : b ≤ length columns

-- the place of k among the places a .. a + c - 1 of l
unfoldable pub seek : List ℕ → ℕ → ℕ → ℕ → Option ℕ
seek l k a zero = none
seek l k a (suc c) = cond (eqb (get_or l (a + c) 0) k) (some (a + c)) (seek l k a c)

unfoldable pub pick : List Float → Option ℕ → Option Float
pick values none = none
pick values (some p) = some (get_or values p nan)

-- the triangle that the slices keep
unfoldable pub numbers : List ℕ → List ℕ → List Float → Sparse
numbers starts columns values i j = pick values (seek columns j (start starts i) (start starts (i + 1) - start starts i))
