-- `pairs::values::value_row` meets its contract: the places below p have their value, and `all` tells whether those are finite. Assumes nothing.
use mathlib.Core.Path.{◌≡◌}
use Rattle.pairs.specs.Gather.{Valued, value_in, arms_of, finite_below}
use Rattle.kapitsa_joint.specs.Mass.{mass_of}
use Rattle.compact_table.specs.Compact.{compact_of}
use Rattle.sparse.specs.Kept.{Row}
use Rattle.pairs.proofs.values.value_row.Given as goal

abbrev pub invariant-loop-p : goal.invariant-loop-p
invariant-loop-p l =
    Row l.starts l.columns l.i l.first l.end × Valued (value_in l.jacobians l.links l.masses) l.starts l.columns l.values l.p × (l.higher ≡ arms_of (mass_of l.masses) (compact_of l.jacobians l.links l.i)) × (l.all ≡ finite_below l.values l.p)
