-- `listing::lines::body_lines` meets its contract: the lines below b are written. Assumes nothing.
use Rattle.listing.proofs.Pieces.{Writing}
use Rattle.listing.specs.Lines.{body_line}
use Rattle.listing.proofs.lines.body_lines.Given as goal

abbrev pub invariant-loop-b : goal.invariant-loop-b
invariant-loop-b l =
    Writing l.initial.out l.at (λ b. body_line b l.impulses l.spare l.centres) l.bodies l.b l.out l.next
