-- `check_work::response::respond` meets its contract: the bodies below b have their responses. Assumes nothing.
use mathlib.Core.List.{map}
use Rattle.binary64.specs.Order.{absolute}
use Rattle.mass_operator.proofs.Sums.{Turned}
use Rattle.check_work.proofs.response.respond.Given as goal

abbrev pub invariant-loop-b : goal.invariant-loop-b
invariant-loop-b l =
    Turned l.masses l.bodies l.b l.initial.impulses l.impulses
    × Turned (map absolute l.masses) l.bodies l.b l.initial.size_impulses l.size_impulses
