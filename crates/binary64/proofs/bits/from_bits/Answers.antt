-- `binary64::from_bits` meets its contract. Assumes nothing.
use borrow.Author.Rules.{rules}
use Rattle.binary64.proofs.bits.Patterns.{from_nan, no_nan, double_meaning}
use Rattle.binary64.proofs.bits.from_bits.Goals as goal

ruleset known = (from_nan, no_nan, double_meaning, rules)

pub is_nan_bits-requires : goal.is_nan_bits-requires
is_nan_bits-requires c =
    search known

pub returns-then-is_nan_bits : goal.returns-then-is_nan_bits
returns-then-is_nan_bits c =
    search known

pub float_from_bits-result : goal.float_from_bits-result
float_from_bits-result c =
    search known

pub returns : goal.returns
returns c =
    search known
