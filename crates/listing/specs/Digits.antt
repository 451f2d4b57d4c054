-- Numbers as text. Document 01, "Sheets to try": "Doubles are their 16 hexadecimal digits, the rest decimal." Digits are ASCII, the hexadecimal ones in lower case, as in the listing.
use Rattle.std.specs.Prelude.{ℕ, zero, suc, ◌+◌, ◌-◌, ◌*◌, ◌/◌, ◌%◌, ◌^◌, cond, List, [], ◌∷◌, ◌++◌, ltb, get_or, Float}
use Rattle.std.specs.Float.{binary64, nan}
use Rattle.std.specs.Float.Ieee.{to_bits}
use Rattle.listing.specs.Written.{pieces}

-- '0' is 48
unfoldable pub decimal_digit : ℕ → ℕ
decimal_digit d = 48 + d

-- The digits of n without leading zeros: those of n / 10 and the last one. The first number counts the digits down; there are never more than suc n.
unfoldable pub decimal_by : ℕ → ℕ → List ℕ
decimal_by zero n = []
decimal_by (suc k) n = cond (ltb n 10) (decimal_digit n ∷ []) (decimal_by k (n / 10) ++ (decimal_digit (n % 10) ∷ []))

unfoldable pub decimal : ℕ → List ℕ
decimal n = decimal_by (suc n) n

-- 'a' is 97
unfoldable pub hexadecimal_digit : ℕ → ℕ
hexadecimal_digit d = cond (ltb d 10) (48 + d) (87 + d)

-- the 16 digits of 64 bits, the highest first
unfoldable pub hexadecimal : ℕ → List ℕ
hexadecimal bits = pieces (λ k. hexadecimal_digit (bits / 2 ^ (60 - 4 * k) % 16) ∷ []) 16

-- a word of a line: one space and the number
unfoldable pub number : ℕ → List ℕ
number n = 32 ∷ decimal n

unfoldable pub double : Float → List ℕ
double x = 32 ∷ hexadecimal (to_bits binary64 x)

-- n words: the numbers of l from `first` on
unfoldable pub doubles : List Float → ℕ → ℕ → List ℕ
doubles l first n = pieces (λ k. double (get_or l (first + k) nan)) n
