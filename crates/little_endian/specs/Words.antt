-- Little-endian words: a number's first byte is its lowest.
use Rattle.std.specs.Prelude.{ℕ, ◌+◌, ◌*◌, List, get_or, Float}
use Rattle.std.specs.Float.{binary64}
use Rattle.std.specs.Float.Ieee.{of_bits}
use Rattle.loops.specs.Tabulate.{tabulate}

-- four bytes
unfoldable pub half_at : List ℕ → ℕ → ℕ
half_at bytes at = get_or bytes at 0 + 256 * get_or bytes (at + 1) 0 + 65536 * get_or bytes (at + 2) 0 + 16777216 * get_or bytes (at + 3) 0

-- eight bytes
unfoldable pub word_at : List ℕ → ℕ → ℕ
word_at bytes at = half_at bytes at + 4294967296 * half_at bytes (at + 4)

-- the double that has these bits
unfoldable pub double_at : List ℕ → ℕ → Float
double_at bytes at = of_bits binary64 (word_at bytes at)

-- n words from `at` on, as doubles
unfoldable pub doubles_at : List ℕ → ℕ → ℕ → List Float
doubles_at bytes at n = tabulate (λ i. double_at bytes (at + 8 * i)) n

-- the low halves of n words
unfoldable pub halves_at : List ℕ → ℕ → ℕ → List ℕ
halves_at bytes at n = tabulate (λ i. half_at bytes (at + 8 * i)) n
