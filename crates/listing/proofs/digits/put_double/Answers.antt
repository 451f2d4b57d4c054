-- `listing::digits::put_double` meets its contract. Assumes nothing.
use mathlib.Core.List.{[], ◌∷◌}
use Rattle.listing.specs.Digits.{double}
use Rattle.listing.proofs.Joined.{room_first, room_rest, wrote_join}
use Rattle.listing.proofs.digits.put_double.Goals as goal

pub put_byte-next-requires : goal.put_byte-next-requires
unfolding double
put_byte-next-requires c =
    room_first {a = 32 ∷ []} _ c.requires

pub put_hexadecimal-requires : goal.put_hexadecimal-requires
unfolding double
put_hexadecimal-requires c =
    rw c.to_bits.ensures.value (room_rest {a = 32 ∷ []} c.requires c.put_byte-next.ensures)

pub returns : goal.returns
unfolding double
returns c =
    wrote_join c.put_byte-next.ensures (rw c.to_bits.ensures.value at c.put_hexadecimal.ensures)
