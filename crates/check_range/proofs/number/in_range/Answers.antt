-- `check_range::number::in_range` meets its contract. Assumes nothing.
use borrow.Author.Rules.{rules}
use Rattle.check_range.proofs.Bits.{in_bits}
use Rattle.check_range.proofs.number.in_range.Goals as goal

pub returns : goal.returns
returns c =
    in_bits _ (search rules) c.to_bits-size.ensures.value
