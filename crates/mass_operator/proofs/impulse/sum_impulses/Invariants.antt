-- `mass_operator::impulse::sum_impulses` meets its contract: between two runs the slice has the impulses of the rows below i. Assumes nothing.
use Prim.Native.Nat.{◌-◌, ◌≤◌}
use lib.ListN.{length}
use Rattle.compact_table.specs.Compact.{compact_of}
use Rattle.mass_operator.specs.Flat.{coefficients}
use Rattle.mass_operator.specs.Lent.{Summing}
use Rattle.mass_operator.proofs.impulse.sum_impulses.Given as goal

abbrev pub invariant-loop-i : goal.invariant-loop-i
invariant-loop-i l =
    (l.i ≤ length l.vector) × Summing (compact_of l.jacobians l.links) (coefficients l.vector) l.bodies l.i l.impulses

abbrev pub decreases-loop-i : goal.decreases-loop-i
decreases-loop-i l = length l.vector - l.i
