-- `listing::whole::write_margins` meets its contract. Assumes nothing.
use native.Mathlib.Omega.{arith}
use Rattle.listing.proofs.Joined.{room_rest, wrote_join, room_as, wrote_as}
use Rattle.listing.proofs.Names.{margins_some, margins_none, margins_head}
use Rattle.listing.proofs.whole.write_margins.Goals as goal

pub head_lines-head-requires : goal.head_lines-head-requires
head_lines-head-requires c =
    margins_head _ _ _ _ _ _ _ _ c.requires.2

pub returns-then-verdict-ne1 : goal.returns-then-verdict-ne1
returns-then-verdict-ne1 c =
    wrote_as (margins_none _ _ _ _ _ _ _ _ (omega (arith, c.if-verdict-ne1.true))) c.head_lines-head.ensures

pub margin_lines-requires : goal.margin_lines-requires
margin_lines-requires c =
    (c.requires.0, c.requires.1, room_rest (room_as (margins_some _ _ _ _ _ _ _ _ (omega (arith, c.if-verdict-ne1.false))) c.requires.2) c.head_lines-head.ensures)

pub returns : goal.returns
returns c =
    wrote_as (margins_some _ _ _ _ _ _ _ _ (omega (arith, c.if-verdict-ne1.false))) (wrote_join c.head_lines-head.ensures c.margin_lines.ensures)
