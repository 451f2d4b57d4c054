-- `solve_recorded::lists::all_counted` meets its contract. Assumes nothing.
use Rattle.solve_recorded.specs.Tally.{all_of}
use Rattle.solve_recorded.proofs.lists.all_counted.Goals as goal

pub none-requires : goal.none-requires
unfolding all_of
none-requires c =
    record {}

pub both_counted-positions-requires : goal.both_counted-positions-requires
unfolding all_of
both_counted-positions-requires c =
    c.requires

pub both_counted-velocities-requires : goal.both_counted-velocities-requires
unfolding all_of
both_counted-velocities-requires c =
    c.requires

pub closed-requires : goal.closed-requires
unfolding all_of
closed-requires c =
    record {}

pub returns : goal.returns
unfolding all_of
returns c =
    rw (c.closed.ensures, c.both_counted-velocities.ensures, c.both_counted-positions.ensures, c.none.ensures)
