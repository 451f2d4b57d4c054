-- `compact_table::compact::gather` meets its contract: the rows below i are in the compact table. Assumes nothing.
use Rattle.kapitsa_joint.specs.Row.{jacobian_of, row_of}
use Rattle.compact_table.specs.Compact.{Gathered}
use Rattle.compact_table.proofs.compact.gather.Given as goal

abbrev pub invariant-loop-i : goal.invariant-loop-i
invariant-loop-i l = Gathered (λ k. jacobian_of (row_of l.numbers l.words k)) l.i l.initial.jacobians l.initial.links l.jacobians l.links
