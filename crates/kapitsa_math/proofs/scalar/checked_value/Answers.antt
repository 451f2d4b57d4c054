-- `kapitsa_math::scalar::checked_value` meets its contract: its two ways are those of `checked_value_of`. Assumes nothing.
use borrow.Author.Rules.{rules}
use Rattle.kapitsa_math.proofs.CheckedWays.{checked_is}
use Rattle.kapitsa_math.proofs.scalar.checked_value.Goals as goal

pub returns : goal.returns
returns c = search (checked_is, rules)
