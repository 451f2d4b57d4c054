-- A finite number as a whole number of units of its format's smallest, 2 ^ -low (2 ^ -1074 in binary64).
-- `plus` is its part above zero and `less` its part below zero: the number is plus - less units, and one of the two is 0. A NaN and an infinity count as 0.
use Rattle.std.specs.Prelude.{ℕ, cond, Float, neg_ℤ, pos, ℤ}
use Rattle.std.specs.Float.{Format, fin, inf, nan}
use Rattle.binary64.specs.Units.{units_of}

unfoldable pub plus : Format → Float → ℕ
unfolding units_of
plus f nan = 0
plus f (inf s) = 0
plus f (fin s m e) = cond s 0 (units_of f (fin s m e))

unfoldable pub less : Format → Float → ℕ
unfolding units_of
less f nan = 0
less f (inf s) = 0
less f (fin s m e) = cond s (units_of f (fin s m e)) 0

-- the number as an integer
unfoldable pub val : Format → Float → ℤ
unfolding units_of
val f nan = pos 0
val f (inf s) = pos 0
val f (fin s m e) = cond s (neg_ℤ (pos (units_of f (fin s m e)))) (pos (units_of f (fin s m e)))
