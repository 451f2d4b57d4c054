-- `group_step::deliver::deliver_group` meets its contract. Assumes nothing.
use native.Mathlib.Omega.{arith}
use Rattle.group_step.proofs.Delivery.{placed_few, accepted_there, accepted_else, refused_there, refused_else}
use mathlib.Core.Path.{ap}
use Rattle.refusals.specs.Told.{told}
use Rattle.group_step.proofs.deliver.deliver_group.Goals as goal

pub put_group-requires : goal.put_group-requires
put_group-requires c =
    record { rows_in_bounds = (c.requires.rows_in_bounds.0, omega (arith, c.requires.table_room_2.numbers_long), omega (arith, c.requires.table_room_2.solution_long), omega (arith, c.requires.table_room_2.rules_long)); own_numbers_len = (c.requires.table_room.numbers_long, c.requires.table_room.solution_long, c.requires.table_room.rules_long) }

pub overflow_add-g : goal.overflow_add-g
overflow_add-g c =
    omega (arith, c.requires.rows_in_bounds.2)

pub put_bodies-requires : goal.put_bodies-requires
put_bodies-requires c =
    record { bodies_in_bounds = (c.requires.rows_in_bounds.1, omega (arith, placed_few c.args.kind c.args.bodies, c.placed_of-placed.ensures)); bodies_in_bounds_2 = (omega (arith, c.requires.table_room.impulses_long), omega (arith, c.requires.table_room_2.impulses_long), omega (arith, c.requires.table_room.centres_long, c.placed_of-placed.ensures), omega (arith, c.requires.table_room_2.centres_long, c.placed_of-placed.ensures)) }

pub returns-in-Ok : goal.returns-in-Ok
returns-in-Ok c =
    record { delivered = accepted_there _ _ _ _ _ _ _ _ _ _ _ _ _ _ _ _ c.placed_of-placed.ensures c.put_group.ensures c.put_bodies.ensures _ _ (ap told c.in-Ok.is); table_kept = accepted_else _ _ _ _ _ _ _ _ _ _ _ _ _ _ _ _ c.placed_of-placed.ensures c.put_group.ensures c.put_bodies.ensures }

pub returns-in-Err : goal.returns-in-Err
returns-in-Err c =
    record { delivered = refused_there _ _ _ _ _ _ _ _ _ _ _ _ (ap told c.in-Err.is); table_kept = refused_else _ _ _ _ _ _ _ _ }
