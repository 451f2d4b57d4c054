-- Every row's reach and the verdict, from what the work memory holds.
use Rattle.std.specs.Prelude.{ℕ, Bool, List, get_or, Float}
use Rattle.std.specs.Float.{nan}
use Rattle.std.specs.Float.Ieee.{le}
use Rattle.rules.specs.Rules.{Rules}
use Rattle.rules.specs.Rows.{tolerance_in}
use Rattle.check_measure.specs.Verdict.{reach_of}

-- from the rows' errors, their values and their values on sizes
unfoldable pub reach_in : (ℕ → Float) → List Float → List Float → ℕ → ℕ → Float
reach_in error values sizes n i = reach_of n (error i) (get_or values i nan) (get_or sizes i nan)

-- a listed reach against its row's tolerance
unfoldable pub within_in : List ℕ → List Float → Rules → ℕ → Bool
within_in words reaches rules i = le (get_or reaches i nan) (tolerance_in rules words i)
