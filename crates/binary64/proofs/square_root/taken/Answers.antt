-- `binary64::taken` meets its contract. Assumes nothing.
use borrow.Author.Rules.{rules}
use Rattle.binary64.proofs.square_root.Pattern.{taken_low, taken_high, led_reach, led_small, shift_count, shift_fits, shift_room, shift_most, shift_reach, shift_small, shift_low, shift_high}
use Rattle.binary64.proofs.square_root.taken.Goals as goal

ruleset known = (shift_count, shift_fits, shift_room, shift_most, shift_reach, shift_small, shift_low, shift_high, taken_low, taken_high, led_reach, led_small, rules)

pub overflow_sub-shift : goal.overflow_sub-shift
overflow_sub-shift c = search known

pub overflow_shl-low : goal.overflow_shl-low
overflow_shl-low c = search known

pub scaled-requires : goal.scaled-requires
scaled-requires c = search known

pub returns-then-field-eq0 : goal.returns-then-field-eq0
returns-then-field-eq0 c =
    let scaled = rw c.from.ensures at c.scaled.ensures in search known

pub overflow_add-field : goal.overflow_add-field
overflow_add-field c = search known

pub scaled-requires-2 : goal.scaled-requires-2
scaled-requires-2 c = search known

pub returns : goal.returns
returns c = search known
