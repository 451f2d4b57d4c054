-- Lists of numbers, and the numbers of tests in their order. Document 01, "Why a job was turned back": a number that stands earlier is judged earlier.
use Rattle.std.specs.Prelude.{ℕ, Bool, cond, false, true, List, [], ◌∷◌, ◌≡◌, eqb}

unfoldable pub stands : ℕ → List ℕ → Bool
stands n [] = false
stands n (k ∷ l) = cond (eqb n k) true (stands n l)

-- n is a number of the list
abbrev pub In : ℕ → List ℕ → Type 0
In n l = stands n l ≡ true

-- no number stands twice
unfoldable pub once : List ℕ → Bool
once [] = true
once (k ∷ l) = cond (stands k l) false (once l)

-- the numbers of tests, in their order
unfoldable pub numbers_of : List (ℕ × Bool) → List ℕ
numbers_of [] = []
numbers_of (t ∷ l) = t.0 ∷ numbers_of l
