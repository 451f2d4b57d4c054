-- `listing::digits::put_hexadecimal` meets its contract: the digits below k are written. Assumes nothing.
use Rattle.listing.specs.Digits.{hexadecimal}
use native.Mathlib.Omega.{arith}
use Rattle.listing.proofs.Joined.{room_byte, wrote_byte}
use Rattle.listing.proofs.Pieces.{writing_none, writing_room, writing_more, writing_end}
use Rattle.listing.proofs.digits.put_hexadecimal.Goals as goal

pub loop-k-init : goal.loop-k-init
unfolding hexadecimal
loop-k-init c =
    writing_none c.requires

pub put_byte-next-requires : goal.put_byte-next-requires
unfolding hexadecimal
put_byte-next-requires c =
    room_byte _ (writing_room c.loop-k.invariant (omega arith))

pub loop-k-preserved : goal.loop-k-preserved
unfolding hexadecimal
loop-k-preserved c =
    writing_more c.loop-k.invariant (omega arith) (wrote_byte c.hexadecimal_digit-digit.ensures c.put_byte-next.ensures)

pub returns : goal.returns
unfolding hexadecimal
returns c =
    writing_end c.loop-k.invariant (omega arith)
