-- Text that stands in lent bytes.
use Rattle.std.specs.Prelude.{ℕ, zero, suc, ◌+◌, ◌≤◌, ◌≡◌, List, [], ◌++◌, length, take, drop}

-- `out` with the text from the byte `at` on, and as it was before and after it
unfoldable pub placed : List ℕ → ℕ → List ℕ → List ℕ
placed out at text = take at out ++ text ++ drop (at + length text) out

-- there is room for the text
pub record Room (out : List ℕ) (at : ℕ) (text : List ℕ) : Type 0 where
  pub fits : at + length text ≤ length out

-- a call that writes the text and returns the place after it
pub record Wrote (out : List ℕ) (at : ℕ) (text out' : List ℕ) (end : ℕ) : Type 0 where
  pub within : at + length text ≤ length out
  pub bytes : out' ≡ placed out at text
  pub after : end ≡ at + length text

-- the texts g 0, g 1 .. g (n - 1), one after the other
unfoldable pub pieces : (ℕ → List ℕ) → ℕ → List ℕ
pieces g zero = []
pieces g (suc n) = pieces g n ++ g n
