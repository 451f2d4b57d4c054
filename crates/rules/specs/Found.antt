-- What a search among the first n numbers answers: the first that p is true of.
use Rattle.std.specs.Prelude.{ℕ, ◌<◌, ◌≤◌, ◌≡◌, Bool, true, false}

-- r is the first from `start` on, or n
pub record First (p : ℕ → Bool) (n start r : ℕ) : Type 0 where
  pub from : start ≤ r
  pub within : r ≤ n
  pub none : (q : ℕ) → start ≤ q → q < r → p q ≡ false
  pub hit : r < n → p r ≡ true
