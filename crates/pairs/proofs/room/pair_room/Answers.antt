-- `pairs::room::pair_room` meets its contract. Assumes nothing.
use borrow.Author.Rules.{rules}
use Rattle.pairs.proofs.Limit.{product_fits, room_all, room_most, room_none}
use Rattle.pairs.proofs.room.pair_room.Goals as goal

ruleset known = (room_none, room_most, room_all, product_fits, rules)

pub returns-then-rows-eq0 : goal.returns-then-rows-eq0
returns-then-rows-eq0 c =
    search known

pub returns-then-all-gt-PAIR_LIMIT : goal.returns-then-all-gt-PAIR_LIMIT
returns-then-all-gt-PAIR_LIMIT c =
    search known

pub returns : goal.returns
returns c =
    search known
