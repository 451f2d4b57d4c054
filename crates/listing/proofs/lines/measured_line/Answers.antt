-- `listing::lines::measured_line` meets its contract. Assumes nothing.
use Rattle.listing.proofs.Joined.{room_as, wrote_as}
use Rattle.listing.proofs.Names.{measured_gap, measured_none}
use Rattle.listing.proofs.lines.measured_line.Goals as goal

pub gap_line-requires : goal.gap_line-requires
gap_line-requires c =
    room_as (measured_gap _ c.if-verdict-le1.true) c.requires

pub returns-then-verdict-le1 : goal.returns-then-verdict-le1
returns-then-verdict-le1 c =
    wrote_as (measured_gap _ c.if-verdict-le1.true) c.gap_line.ensures

pub no_gap_line-requires : goal.no_gap_line-requires
no_gap_line-requires c =
    room_as (measured_none _ c.if-verdict-le1.false) c.requires

pub returns : goal.returns
returns c =
    wrote_as (measured_none _ c.if-verdict-le1.false) c.no_gap_line.ensures
