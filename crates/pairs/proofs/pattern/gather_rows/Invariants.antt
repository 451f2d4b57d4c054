-- `pairs::pattern::gather_rows` meets its contract: the rows below i are gathered. Assumes nothing.
use Prim.Native.Nat.{◌+◌}
use mathlib.Core.Path.{◌≡◌}
use lib.ListN.{length}
use Rattle.pairs.specs.Gather.{Firsts, Stored, share_in}
use Rattle.pairs.specs.Pattern.{starts_in, columns_in}
use Rattle.pairs.proofs.pattern.gather_rows.Given as goal

abbrev pub invariant-loop-i : goal.invariant-loop-i
invariant-loop-i l =
    (length l.pattern ≡ l.n + 1 + l.room) × Firsts l.links l.firsts l.i × Stored (share_in l.links) (starts_in l.n l.pattern) (columns_in l.n l.pattern) l.i l.p
