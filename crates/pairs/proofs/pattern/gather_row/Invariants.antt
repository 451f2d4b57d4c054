-- `pairs::pattern::gather_row` meets its contract: the columns below j are tried. Assumes nothing.
use Prim.Native.Nat.{◌-◌, ◌≤◌}
use mathlib.Core.Path.{◌≡◌}
use lib.ListN.{length}
use Rattle.pairs.proofs.Parts.{Bodies}
use Rattle.pairs.specs.Gather.{RowPart, share_in}
use Rattle.pairs.proofs.pattern.gather_row.Given as goal

abbrev pub invariant-loop-j : goal.invariant-loop-j
invariant-loop-j l =
    (l.j ≤ l.i) × (length l.columns ≡ length l.initial.columns) × Bodies l.links l.i l.a l.b × RowPart (share_in l.links) l.initial.columns l.columns l.i l.first l.p l.j

abbrev pub decreases-loop-j : goal.decreases-loop-j
decreases-loop-j l = l.i - l.j
