-- `listing::digits::put_number` meets its contract. Assumes nothing.
use mathlib.Core.List.{[], ◌∷◌}
use Rattle.listing.specs.Digits.{number}
use Rattle.listing.proofs.Joined.{room_first, room_rest, wrote_join}
use Rattle.listing.proofs.digits.put_number.Goals as goal

pub put_byte-next-requires : goal.put_byte-next-requires
unfolding number
put_byte-next-requires c =
    room_first {a = 32 ∷ []} _ c.requires

pub put_decimal-requires : goal.put_decimal-requires
unfolding number
put_decimal-requires c =
    room_rest {a = 32 ∷ []} c.requires c.put_byte-next.ensures

pub returns : goal.returns
unfolding number
returns c =
    wrote_join c.put_byte-next.ensures c.put_decimal.ensures
