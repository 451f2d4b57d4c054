-- `position_solve::solve::with_diagonal` meets its contract. Assumes nothing.
use Rattle.own_memory.proofs.Rooms.{no_factor}
use Rattle.position_solve.proofs.solve.with_diagonal.Goals as goal

pub with_vectors-requires : goal.with_vectors-requires
with_vectors-requires c =
    record { given_value = c.requires.given_value; rows_bound = c.requires.rows_bound; factor_room = no_factor _ _ c.requires.mode_value }

pub returns : goal.returns
returns c =
    c.with_vectors.ensures
