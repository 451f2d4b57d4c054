-- A counted loop that nothing can refuse.
use Rattle.std.specs.Prelude.{ℕ, zero, suc}

-- what the turns 0 .. k - 1 of f make of s
unfoldable pub count : {S : Type 0} → (ℕ → S → S) → S → ℕ → S
count f s zero = s
count f s (suc k) = f k (count f s k)
