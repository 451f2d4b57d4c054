-- `pairs::pattern::eight_apart` meets its contract. Assumes nothing.
use native.Mathlib.Omega.{arith}
use Rattle.pairs.proofs.Parts.{eight_few, eight_long, eight_more}
use Rattle.pairs.proofs.pattern.eight_apart.Goals as goal

pub returns-then-j-i : goal.returns-then-j-i
returns-then-j-i c =
    eight_few _ _ _ _ _ c.if-j-i.true

pub four_share-requires : goal.four_share-requires
four_share-requires c =
    omega (arith, c.requires.0, eight_long c.args.i c.args.j c.if-j-i.false, c.wide-at.ensures)

pub four_share-requires-2 : goal.four_share-requires-2
four_share-requires-2 c =
    omega (arith, c.requires.0, eight_long c.args.i c.args.j c.if-j-i.false, c.wide-at.ensures)

pub returns : goal.returns
returns c =
    eight_more _ _ _ _ _ _ _ _ c.wide-at.ensures c.if-j-i.false c.four_share.ensures c.four_share-2.ensures
