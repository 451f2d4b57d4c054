-- `solve_recorded::tally::Count::from` meets its contract. Assumes nothing.
use Rattle.std.proofs.Common.{refl}
use Rattle.solve_recorded.specs.Tally.{from_of}
use Rattle.solve_recorded.proofs.tally.Count.from.Goals as goal

pub returns : goal.returns
unfolding from_of
returns c =
    refl
