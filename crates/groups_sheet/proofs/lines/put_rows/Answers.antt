-- `groups_sheet::lines::put_rows` meets its contract: the words of the rows below i are written. Assumes nothing.
use native.Mathlib.Omega.{arith}
use Rattle.listing.proofs.Joined.{room_as, wrote_as}
use Rattle.listing.proofs.Pieces.{writing_none, writing_room, writing_more, writing_end}
use Rattle.groups_sheet.proofs.Words.{words_pieces}
use Rattle.groups_sheet.proofs.lines.put_rows.Goals as goal

pub loop-i-init : goal.loop-i-init
loop-i-init c = writing_none (room_as (words_pieces _ _ _) c.requires.1)

pub put_row-next-requires : goal.put_row-next-requires
put_row-next-requires c = (omega (arith, c.requires.0), writing_room c.loop-i.invariant (omega arith))

pub loop-i-preserved : goal.loop-i-preserved
loop-i-preserved c = writing_more c.loop-i.invariant (omega arith) c.put_row-next.ensures

pub returns : goal.returns
returns c = wrote_as (words_pieces _ _ _) (writing_end c.loop-i.invariant (omega arith))
