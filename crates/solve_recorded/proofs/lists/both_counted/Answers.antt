-- `solve_recorded::lists::both_counted` meets its contract. Assumes nothing.
use Rattle.solve_recorded.specs.Tally.{both_of}
use Rattle.solve_recorded.proofs.lists.both_counted.Goals as goal

pub list_counted-first-requires : goal.list_counted-first-requires
unfolding both_of
list_counted-first-requires c =
    c.requires

pub list_counted-requires : goal.list_counted-requires
unfolding both_of
list_counted-requires c =
    c.requires

pub returns : goal.returns
unfolding both_of
returns c =
    rw (c.list_counted.ensures, c.list_counted-first.ensures)
