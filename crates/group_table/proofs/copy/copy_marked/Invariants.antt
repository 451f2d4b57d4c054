-- `group_table::copy::copy_marked` meets its contract: those below b are copied. Assumes nothing.
use lib.Ieee.{nan}
use Rattle.group_table.specs.Pick.{Marked}
use Rattle.group_table.proofs.copy.copy_marked.Given as goal

abbrev pub invariant-loop-b : goal.invariant-loop-b
invariant-loop-b l = Marked nan l.width l.marks l.mark l.b l.from l.initial.to l.to
