-- Document 01: "Each accumulated_multiplier gains its solution number"; "17. A final impulse or multiplier is not finite." Document 02, a: "The accumulated impulse is what changes".
use Rattle.std.specs.Prelude.{ℕ, zero, suc, ◌+◌, ◌*◌, Bool, List, get_or, set, Float}
use Rattle.std.specs.Float.{nan, binary64}
use Rattle.std.specs.Float.Ieee.{add}
use Rattle.std.specs.Float.Ieee.Scale.{finite}
use Rattle.loops.specs.Every.{every}

-- "gains its solution number", of row i
abbrev pub gain_by : (ℕ → Float) → List Float → ℕ → Float
gain_by accumulated solution i = add binary64 (accumulated i) (get_or solution i nan)

-- the number at this place of a row's 27: accumulated_multiplier is 24, accumulated_impulse 25
abbrev pub accumulated_in : ℕ → List Float → ℕ → Float
accumulated_in place numbers i = get_or numbers (27 * i + place) nan

unfoldable pub gain_of : ℕ → List Float → List Float → ℕ → Float
gain_of place numbers = gain_by (accumulated_in place numbers)

unfoldable pub gains_finite : ℕ → List Float → List Float → ℕ → Bool
gains_finite place numbers solution n = every (λ i. finite (gain_of place numbers solution i)) n

-- the rows' numbers, where the first k have gained
unfoldable pub gained : ℕ → List Float → List Float → ℕ → List Float
gained place numbers solution zero = numbers
gained place numbers solution (suc k) = set (gained place numbers solution k) (27 * k + place) (gain_of place numbers solution k)
