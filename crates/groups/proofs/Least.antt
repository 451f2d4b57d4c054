-- `Together` is the least relation that the sentence of document 02 asks for, and it goes both ways. Assumes nothing.
use Prim.Native.Nat.{ℕ, ◌<◌}
use mathlib.Core.Path.{◌≡◌}
use mathlib.Core.Bool.{Bool, true}
use mathlib.Core.List.{List}
use lib.ListN.{get_or}
use Rattle.groups.specs.Together.{Links, Has, Together, Grouped, itself, shared, through}

module _ {links : Links} {joining : ℕ → Bool} {rows : ℕ} where
  -- every relation of rows that has each row with itself and the rows sharing a joining body, and goes through further rows, has the rows that belong together
  pub together_least : (R : ℕ → ℕ → Type 0) → ((i : ℕ) → R i i) → ((i j b : ℕ) → i < rows → j < rows → Has links i b → Has links j b → joining b ≡ true → R i j) → ((i j k : ℕ) → R i j → R j k → R i k) → {i j : ℕ} → Together links joining rows i j → R i j
  together_least R s t u (itself i) = s i
  together_least R s t u (shared i j b hi hj p q g) = t i j b hi hj p q g
  together_least R s t u (through i j k x y) = u i j k (together_least R s t u x) (together_least R s t u y)

  pub together_back : {i j : ℕ} → Together links joining rows i j → Together links joining rows j i
  together_back (itself i) = itself i
  together_back (shared i j b hi hj p q g) = shared j i b hj hi q p g
  together_back (through i j k x y) = through k j i (together_back y) (together_back x)

-- a joining body is in one group only: groups meet, if at all, on bodies that join nothing
pub body_group : {links : Links} {joining : ℕ → Bool} {rows : ℕ} {groups : List ℕ} {count : ℕ} → Grouped links joining rows groups count → (i j b : ℕ) → i < rows → j < rows → Has links i b → Has links j b → joining b ≡ true → get_or groups i 0 ≡ get_or groups j 0
body_group t i j b hi hj p q g = (t.together i j hi hj).1 (shared i j b hi hj p q g)
