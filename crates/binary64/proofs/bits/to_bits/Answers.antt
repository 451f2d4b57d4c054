-- `binary64::to_bits` meets its contract. Assumes nothing.
use borrow.Author.Rules.{rules}
use Rattle.binary64.proofs.bits.Patterns.{equal_itself, to_nan, bits_meaning}
use Rattle.binary64.proofs.bits.to_bits.Goals as goal

ruleset known = (equal_itself, to_nan, bits_meaning, rules)

pub float_to_bits-result : goal.float_to_bits-result
float_to_bits-result c =
    search known

pub returns-then-x : goal.returns-then-x
returns-then-x c =
    search known

pub returns : goal.returns
returns c =
    search known
