-- `position_delivery::delivery::propose_and_clear` meets its contract. Assumes nothing.
use mathlib.Core.Path.{refl}
use native.Mathlib.Omega.{arith}
use Rattle.position_delivery.proofs.Counted.{delivered_both}
use Rattle.position_delivery.proofs.delivery.propose_and_clear.Goals as goal

pub propose-answer-requires : goal.propose-answer-requires
propose-answer-requires c =
    record { numbers_len = (c.requires.rows_room.numbers_long, c.requires.rows_room.words_long, omega (arith, c.requires.rows_room.masses_long), c.requires.solution_len.0, c.requires.solution_len.1); place_bound = c.requires.place_bound; rows_in_bounds = (omega (arith, c.requires.table_room.jacobians_long), omega (arith, c.requires.table_room.links_long), c.requires.table_room.pending_long, c.requires.table_room.residual_long, c.requires.table_room.body_impulses_long); stands_after = c.requires.stands_after }

pub returns : goal.returns
returns c =
    record { centres_value = delivered_both c.args.place c.args.numbers.now c.args.masses.now c.args.words.now c.args.rows c.args.bodies _ c.args.limit c.args.pending.now c.args.residual.now c.requires.table_room.pending_long _ _ _ c.args.counted _ _ _ _ _ c.propose-answer.ensures.centres_value refl; body_impulses_after = rw c.body_impulses-1.given at c.clear_table.ensures }
