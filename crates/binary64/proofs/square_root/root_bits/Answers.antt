-- `binary64::root_bits` meets its contract. Assumes nothing.
use borrow.Author.Rules.{rules}
use Rattle.binary64.proofs.square_root.Pattern.{near_reach, near_small, root_bits_are}
use Rattle.binary64.proofs.square_root.root_bits.Goals as goal

ruleset known = (near_reach, near_small, root_bits_are, rules)

pub taken-x-requires : goal.taken-x-requires
taken-x-requires c = search known

pub whole_root-s-requires : goal.whole_root-s-requires
whole_root-s-requires c = search known

pub rounded-requires : goal.rounded-requires
rounded-requires c = search known

pub assembled-requires : goal.assembled-requires
assembled-requires c = search known

pub returns : goal.returns
returns c = search known
