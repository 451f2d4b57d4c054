-- `solve_replay::compare::same_double` meets its contract. Assumes nothing.
use borrow.Author.Rules.{rules}
use Rattle.solve_replay.specs.Compare.{same_double}
use Rattle.solve_replay.proofs.compare.same_double.Goals as goal

pub to_bits-requires : goal.to_bits-requires
unfolding same_double
to_bits-requires c =
    search rules

pub returns : goal.returns
unfolding same_double
returns c =
    rw c.to_bits.ensures.value
