-- `solve_replay::replay::table_seen` meets its contract. Assumes nothing.
use Prim.Native.Nat.{ℕ, ◌*◌}
use mathlib.Core.Path.{sym, ap, ◌∙◌}
use native.Mathlib.Omega.{arith}
use lib.Seq.{length-take-le}
use lib.Ieee.{Float}
use Rattle.solve_replay.proofs.Beside.{placed_few}
use Rattle.solve_replay.proofs.Filling.{within, lent_long, filled_long, long_filled, filled_part}
use Rattle.solve_replay.specs.Seen.{marked}
use Rattle.solve_replay.proofs.Showing.{table_shown}
use Rattle.solve_replay.proofs.replay.table_seen.Goals as goal

pub solution_room-solution-requires : goal.solution_room-solution-requires
solution_room-solution-requires c =
    record {}

pub impulse_room-impulses-requires : goal.impulse_room-impulses-requires
impulse_room-impulses-requires c =
    record {}

pub new_centre_room-new_centres-requires : goal.new_centre_room-new_centres-requires
new_centre_room-new_centres-requires c =
    record {}

pub wide-n-requires : goal.wide-n-requires
wide-n-requires c =
    record {}

pub wide-b-requires : goal.wide-b-requires
wide-b-requires c =
    record {}

pub overflow_mul-six : goal.overflow_mul-six
overflow_mul-six c =
    omega (arith, c.wide-b.ensures, c.requires.at_bound.2)

pub placed_of-requires : goal.placed_of-requires
placed_of-requires c =
    record {}

pub wide-three-requires : goal.wide-three-requires
wide-three-requires c =
    record {}

pub overflow_mul-three : goal.overflow_mul-three
overflow_mul-three c =
    omega (arith, c.wide-three.ensures, c.placed_of.ensures, c.requires.at_bound.2, placed_few c.args.kind c.args.header.bodies)

pub read_table-end-requires : goal.read_table-end-requires
read_table-end-requires c =
    record { at_bound = c.requires.at_bound; numbers_len = c.requires.numbers_len; rows_value = c.requires.rows_value }

pub slice_bounds-solution-end : goal.slice_bounds-solution-end
slice_bounds-solution-end c =
    within {A = Float} _ c.solution_room-solution.result _ _ (long_filled marked 513 c.solution_room-solution.result c.solution_room-solution.ensures) c.wide-n.ensures c.requires.at_bound.1

pub slice_bounds-solved_seen-end : goal.slice_bounds-solved_seen-end
slice_bounds-solved_seen-end c =
    sym (length-take-le _ _ (within {A = Float} _ c.solution_room-solution.result _ _ (long_filled marked 513 c.solution_room-solution.result c.solution_room-solution.ensures) c.wide-n.ensures c.requires.at_bound.1))

pub slice_bounds-impulses-end : goal.slice_bounds-impulses-end
slice_bounds-impulses-end c =
    within {A = Float} _ c.impulse_room-impulses.result _ _ (long_filled marked 1542 c.impulse_room-impulses.result c.impulse_room-impulses.ensures) (ap (λ (x : ℕ). 6 * x) c.wide-b.ensures) (omega (arith, c.requires.at_bound.2))

pub slice_bounds-solved_seen-end-2 : goal.slice_bounds-solved_seen-end-2
slice_bounds-solved_seen-end-2 c =
    sym (length-take-le _ _ (within {A = Float} _ c.impulse_room-impulses.result _ _ (long_filled marked 1542 c.impulse_room-impulses.result c.impulse_room-impulses.ensures) (ap (λ (x : ℕ). 6 * x) c.wide-b.ensures) (omega (arith, c.requires.at_bound.2))))

pub slice_bounds-new_centres-end : goal.slice_bounds-new_centres-end
slice_bounds-new_centres-end c =
    within {A = Float} _ c.new_centre_room-new_centres.result _ _ (long_filled marked 771 c.new_centre_room-new_centres.result c.new_centre_room-new_centres.ensures) (ap (λ (x : ℕ). 3 * x) (c.wide-three.ensures ∙ c.placed_of.ensures)) (omega (arith, c.requires.at_bound.2, placed_few c.args.kind c.args.header.bodies))

pub slice_bounds-solved_seen-end-3 : goal.slice_bounds-solved_seen-end-3
slice_bounds-solved_seen-end-3 c =
    sym (length-take-le _ _ (within {A = Float} _ c.new_centre_room-new_centres.result _ _ (long_filled marked 771 c.new_centre_room-new_centres.result c.new_centre_room-new_centres.ensures) (ap (λ (x : ℕ). 3 * x) (c.wide-three.ensures ∙ c.placed_of.ensures)) (omega (arith, c.requires.at_bound.2, placed_few c.args.kind c.args.header.bodies))))

pub solved_seen-requires : goal.solved_seen-requires
solved_seen-requires c =
    record { at_bound = (c.read_table-end.ensures.near, c.requires.at_bound.1, c.requires.at_bound.2); rows_len = (c.rows-1.given ∙ filled_long 0 (35 * c.args.header.rows) c.args.rows.now c.requires.rows_value.0, c.numbers-1.given ∙ c.requires.numbers_len.0, lent_long {A = Float} _ c.solution_room-solution.result _ _ (long_filled marked 513 c.solution_room-solution.result c.solution_room-solution.ensures) c.wide-n.ensures c.requires.at_bound.1, lent_long {A = Float} _ c.impulse_room-impulses.result _ _ (long_filled marked 1542 c.impulse_room-impulses.result c.impulse_room-impulses.ensures) (ap (λ (x : ℕ). 6 * x) c.wide-b.ensures) (omega (arith, c.requires.at_bound.2)), lent_long {A = Float} _ c.new_centre_room-new_centres.result _ _ (long_filled marked 771 c.new_centre_room-new_centres.result c.new_centre_room-new_centres.ensures) (ap (λ (x : ℕ). 3 * x) (c.wide-three.ensures ∙ c.placed_of.ensures)) (omega (arith, c.requires.at_bound.2, placed_few c.args.kind c.args.header.bodies)), c.beside-1.given ∙ c.requires.numbers_len.3) }

pub returns : goal.returns
returns c =
    table_shown c.args.kind _ c.read_table-end.ensures (filled_part marked 513 c.solution_room-solution.result _ _ c.solution_room-solution.ensures c.wide-n.ensures c.requires.at_bound.1) (filled_part marked 1542 c.impulse_room-impulses.result _ _ c.impulse_room-impulses.ensures (ap (λ (x : ℕ). 6 * x) c.wide-b.ensures) (omega (arith, c.requires.at_bound.2))) (filled_part marked 771 c.new_centre_room-new_centres.result _ _ c.new_centre_room-new_centres.ensures (ap (λ (x : ℕ). 3 * x) (c.wide-three.ensures ∙ c.placed_of.ensures)) (omega (arith, c.requires.at_bound.2, placed_few c.args.kind c.args.header.bodies))) c.solved_seen.ensures
