-- "Blocks: runs of equal owner": where a run begins, and how many rows from `start` on have the owner of `start`, of n rows.
use Rattle.std.specs.Prelude.{ℕ, zero, suc, ◌+◌, ◌-◌, ◌<◌, ◌≤◌, ◌≡◌, Bool, true, not, ◌&&◌, cond, List, eqb, get_or}

-- the owners in a lent list
abbrev pub owner_in : List ℕ → ℕ → ℕ
owner_in l i = get_or l i 0

-- row i is the first of its run
unfoldable pub begins : (ℕ → ℕ) → ℕ → Bool
begins owner zero = true
begins owner (suc i) = not (eqb (owner (suc i)) (owner i))

-- how many of the indices 0 .. m - 1 come before the first that fails p
unfoldable pub leading : (ℕ → Bool) → ℕ → ℕ
leading p zero = 0
leading p (suc m) = cond (eqb (leading p m) m && p m) (suc m) (leading p m)

unfoldable pub run_length : (ℕ → ℕ) → ℕ → ℕ → ℕ
run_length owner start n = leading (λ k. eqb (owner (start + k)) (owner start)) (n - start)

-- r rows from `start` on have its owner: itself at least, and all of them are there
pub record RunIs (owner : ℕ → ℕ) (start n r : ℕ) : Type 0 where
  pub is : r ≡ run_length owner start n
  pub some : 0 < r
  pub within : start + r ≤ n

-- "at most 6 rows", of every run
pub record RunsFit (owner : ℕ → ℕ) (n : ℕ) : Type 0 where
  pub six : (i : ℕ) → i < n → begins owner i ≡ true → run_length owner i n ≤ 6
