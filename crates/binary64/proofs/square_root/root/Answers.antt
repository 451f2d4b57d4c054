-- `binary64::root` meets its contract: its tests are the cases of `root_of`. Assumes nothing.
use borrow.Author.Rules.{rules}
use Rattle.binary64.proofs.square_root.Cases.{at_zero, at_refused, at_bits, at_some, at_finite, at_infinite, at_pattern}
use Rattle.binary64.proofs.square_root.Meaning.{root_meaning}
use Rattle.binary64.proofs.square_root.root.Goals as goal

ruleset known = (at_zero, at_refused, at_bits, at_some, at_finite, at_infinite, at_pattern, root_meaning, rules)

pub returns-then-x : goal.returns-then-x
returns-then-x c = search known

pub float_to_bits-bits : goal.float_to_bits-bits
float_to_bits-bits c = search known

pub root_bits-requires : goal.root_bits-requires
root_bits-requires c = search known

pub float_from_bits-result : goal.float_from_bits-result
float_from_bits-result c = search known

pub returns-then-bits-lt9218868437227405312 : goal.returns-then-bits-lt9218868437227405312
returns-then-bits-lt9218868437227405312 c = search known

pub returns-then-x-2 : goal.returns-then-x-2
returns-then-x-2 c = search known

pub returns : goal.returns
returns c = search known
