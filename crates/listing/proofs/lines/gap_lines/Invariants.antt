-- `listing::lines::gap_lines` meets its contract: the lines below i are written. Assumes nothing.
use Rattle.listing.specs.Listing.{row_gap}
use Rattle.listing.proofs.Pieces.{Writing}
use Rattle.listing.proofs.lines.gap_lines.Given as goal

abbrev pub invariant-loop-i : goal.invariant-loop-i
invariant-loop-i l =
    Writing l.initial.out l.at (row_gap l.words l.gaps l.rule_numbers l.tolerances) l.rows l.i l.out l.next
