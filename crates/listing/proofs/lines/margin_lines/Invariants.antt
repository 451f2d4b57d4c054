-- `listing::lines::margin_lines` meets its contract: the lines below k are written. Assumes nothing.
use lib.ListN.{get_or}
use lib.Ieee.{nan}
use Rattle.listing.proofs.Pieces.{Writing}
use Rattle.listing.specs.Lines.{margin_line}
use Rattle.listing.proofs.lines.margin_lines.Given as goal

abbrev pub invariant-loop-k : goal.invariant-loop-k
invariant-loop-k l =
    Writing l.initial.out l.at (λ k. margin_line (get_or l.margin_rows k 0) (get_or l.margins k nan)) l.n l.k l.out l.next
