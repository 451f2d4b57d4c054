-- "the same impulses and centres under the new numbers": what a body has in a lent list goes along with it.
use Rattle.std.specs.Prelude.{ℕ, ◌+◌, ◌*◌, ◌/◌, ◌%◌, List, length, get_or, Float}
use Rattle.std.specs.Float.{nan}
use Rattle.loops.specs.Tabulate.{tabulate}
use Rattle.solve_method.specs.Method.{Delivered}

-- so many doubles a body: body b has those of its old number
unfoldable pub moved_along : ℕ → (ℕ → ℕ) → List Float → List Float
moved_along width q l = tabulate (λ k. get_or l (width * q (k / width) + k % width) nan) (length l)

abbrev pub moved_impulses : (ℕ → ℕ) → List Float → List Float
moved_impulses q l = moved_along 6 q l

abbrev pub moved_centres : (ℕ → ℕ) → List Float → List Float
moved_centres q l = moved_along 3 q l

abbrev pub moved_masses : (ℕ → ℕ) → List Float → List Float
moved_masses q l = moved_along 10 q l

-- what a solve delivers: the rows' numbers and the maxima stay
unfoldable pub moved : (ℕ → ℕ) → Delivered → Delivered
moved q d = record { accumulated = d.accumulated; impulses = moved_impulses q d.impulses; centres = moved_centres q d.centres; maxima = d.maxima }
