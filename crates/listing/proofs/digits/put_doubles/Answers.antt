-- `listing::digits::put_doubles` meets its contract: the numbers below k are written. Assumes nothing.
use native.Mathlib.Omega.{arith}
use Rattle.listing.proofs.Pieces.{writing_none, writing_room, writing_more, writing_end}
use Rattle.listing.specs.Digits.{doubles}
use Rattle.listing.proofs.digits.put_doubles.Goals as goal

pub loop-k-init : goal.loop-k-init
unfolding doubles
loop-k-init c =
    writing_none c.requires.1

pub put_double-next-requires : goal.put_double-next-requires
unfolding doubles
put_double-next-requires c =
    writing_room c.loop-k.invariant (omega arith)

pub loop-k-preserved : goal.loop-k-preserved
unfolding doubles
loop-k-preserved c =
    writing_more c.loop-k.invariant (omega arith) c.put_double-next.ensures

pub returns : goal.returns
unfolding doubles
returns c =
    writing_end c.loop-k.invariant (omega arith)
