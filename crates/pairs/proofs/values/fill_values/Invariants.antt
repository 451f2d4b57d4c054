-- `pairs::values::fill_values` meets its contract: the rows below i have their values, and `fine` tells whether those are finite. Assumes nothing.
use mathlib.Core.Path.{◌≡◌}
use Rattle.pairs.specs.Gather.{Valued, value_in, finite_below}
use Rattle.sparse.specs.Kept.{start}
use Rattle.pairs.proofs.values.fill_values.Given as goal

abbrev pub invariant-loop-i : goal.invariant-loop-i
invariant-loop-i l =
    Valued (value_in l.jacobians l.links l.masses) l.starts l.columns l.values (start l.starts l.i) × (l.fine ≡ finite_below l.values (start l.starts l.i))
