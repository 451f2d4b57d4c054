-- `binary64::whole_root` meets its contract. The invariant: after `turn` turns the first 4 * turn digits of the radicand are root * root + rest, with rest at most 2 * root. Assumes nothing.
use borrow.Author.Rules.{rules}
use Rattle.binary64.proofs.square_root.Digits.{none, more, room, all}
use Rattle.binary64.proofs.square_root.whole_root.Goals as goal

ruleset known = (none, more, room, all, rules)

pub loop-turn-init : goal.loop-turn-init
loop-turn-init c = search known

pub settle-s-requires : goal.settle-s-requires
settle-s-requires c = search known

pub loop-turn-preserved : goal.loop-turn-preserved
loop-turn-preserved c = search known

pub settle_last-requires : goal.settle_last-requires
settle_last-requires c = search known

pub returns : goal.returns
returns c = search known
