-- `listing::lines::row_lines` meets its contract: the lines below i are written. Assumes nothing.
use Prim.Native.Nat.{◌*◌, ◌+◌}
use lib.ListN.{get_or}
use lib.Ieee.{nan}
use Rattle.listing.proofs.Pieces.{Writing}
use Rattle.listing.specs.Lines.{row_line}
use Rattle.listing.proofs.lines.row_lines.Given as goal

abbrev pub invariant-loop-i : goal.invariant-loop-i
invariant-loop-i l =
    Writing l.initial.out l.at (λ i. row_line i (get_or l.numbers (27 * i + 24) nan)) l.rows l.i l.out l.next
