-- Document 01, refusals 16 and 17: "is not finite", of a whole vector.
use Rattle.std.specs.Prelude.{ℕ, Bool, List, length, get_or, Result, Ok, Err, Float}
use Rattle.std.specs.Float.{nan}
use Rattle.std.specs.Float.Ieee.Scale.{finite}
use Rattle.loops.specs.Run.{Run, going, ended, check}
use Rattle.loops.specs.Every.{every}
use Rattle.mass_operator.specs.declared.finite.NotFinite.{NotFinite}

unfoldable pub all_finite_of : List Float → Bool
all_finite_of l = every (λ i. finite (get_or l i nan)) (length l)

unfoldable pub applied_of : List Float → Result Unit NotFinite
applied_of l = check (all_finite_of l) (Ok tt) (Err record {})

-- document 01's number of each answer. An overflow is the caller's refusal: 16 in a step, 17 in what is delivered
abbrev pub applied_out : ℕ → Result Unit NotFinite → Run Unit ℕ
applied_out number (Ok done) = going tt
applied_out number (Err overflow) = ended number
