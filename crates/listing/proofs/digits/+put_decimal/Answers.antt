-- `listing::digits::put_decimal` meets its contract. Assumes nothing.
use native.Mathlib.Omega.{arith}
use Rattle.listing.proofs.Decimal.{room_small, wrote_small, room_tenth, room_last, wrote_last}
use Rattle.listing.proofs.digits.+put_decimal.Goals as goal

pub put_byte-requires : goal.put_byte-requires
put_byte-requires t c = room_small c.decimal_digit-last.ensures (omega arith) c.requires

pub returns-then-n-lt10 : goal.returns-then-n-lt10
returns-then-n-lt10 t c = wrote_small c.decimal_digit-last.ensures (omega arith) c.put_byte.ensures

pub put_decimal-next-requires : goal.put_decimal-next-requires
put_decimal-next-requires t c = (omega arith, room_tenth c.decimal_digit-last.ensures (omega arith) c.requires)

pub put_byte-requires-2 : goal.put_byte-requires-2
put_byte-requires-2 t c = room_last c.decimal_digit-last.ensures (omega arith) c.put_decimal-next.ensures c.requires

pub returns : goal.returns
returns t c = wrote_last c.decimal_digit-last.ensures (omega arith) c.put_decimal-next.ensures c.put_byte-2.ensures
