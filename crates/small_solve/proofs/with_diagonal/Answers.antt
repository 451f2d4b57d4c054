-- `small_solve::with_diagonal` meets its contract. Assumes nothing.
use Rattle.own_memory.proofs.Rooms.{no_factor}
use Rattle.small_solve.proofs.with_diagonal.Goals as goal

pub with_vectors-requires : goal.with_vectors-requires
with_vectors-requires c =
    record { rule_numbers_value = c.requires.rule_numbers_value; rows_bound = c.requires.rows_bound; factor_room = no_factor _ _ c.requires.mode_value }

pub returns : goal.returns
returns c =
    c.with_vectors.ensures
