-- `solve_recorded::lists::list_counted` meets its contract. Assumes nothing.
use Rattle.std.proofs.Common.{◌-◌}
use Rattle.solve_recorded.proofs.Counting.{Jobs}
use Rattle.solve_recorded.proofs.lists.list_counted.Given as goal

abbrev pub invariant-loop-i : goal.invariant-loop-i
invariant-loop-i l =
    Jobs l.kind l.list l.initial.count l.jobs l.i l.count

abbrev pub decreases-loop-i : goal.decreases-loop-i
decreases-loop-i l = l.jobs - l.i
