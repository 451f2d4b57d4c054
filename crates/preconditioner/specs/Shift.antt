-- Document 02, f: "Let the factor take a shift from 0 to 1: each pivot starts from diagonal × (1 + shift), both rounded."
use Rattle.std.specs.Prelude.{Bool, ◌&&◌, List, get_or, length, Float}
use Rattle.std.specs.Float.{nan, binary64}
use Rattle.std.specs.Float.Ieee.{add, mul, le, of_bits}
use Rattle.loops.specs.Cleared.{plus_zero}
use Rattle.loops.specs.Tabulate.{tabulate}

-- 1.0
abbrev pub one : Float
one = of_bits binary64 0x3ff0_0000_0000_0000

unfoldable pub shifted_by : Float → Float → Float
shifted_by shift d = mul binary64 d (add binary64 one shift)

-- of a (replaced) diagonal
unfoldable pub shifted : Float → List Float → List Float
shifted shift diagonal = tabulate (λ i. shifted_by shift (get_or diagonal i nan)) (length diagonal)

-- "25, the shift is not finite, below 0 or above 1": −0.0 passes, a NaN fails every comparison
unfoldable pub passes25 : Float → Bool
passes25 shift = le plus_zero shift && le shift one
