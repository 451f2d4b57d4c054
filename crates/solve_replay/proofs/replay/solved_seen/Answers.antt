-- `solve_replay::replay::solved_seen` meets its contract. Assumes nothing.
use mathlib.Core.Path.{refl, sym, ◌∙◌, ap}
use native.Mathlib.Omega.{arith}
use lib.Seq.{length-take-le}
use Rattle.loops.proofs.Loop.{loops}
use Rattle.solve_replay.specs.Seen.{solved_of}
use Rattle.solve_replay.proofs.Beside.{centres_taken, placed_few, placed_within}
use Rattle.solve_replay.proofs.Showing.{solved_accepted, solved_refused}
use Rattle.refusals.specs.Told.{told}
use Rattle.solve_replay.proofs.replay.solved_seen.Goals as goal

pub tolerance_in-tolerance-requires : goal.tolerance_in-tolerance-requires
unfolding solved_of
tolerance_in-tolerance-requires c =
    record {}

pub overflow_cast-n : goal.overflow_cast-n
unfolding solved_of
overflow_cast-n c =
    search loops

pub placed_of-requires : goal.placed_of-requires
unfolding solved_of
placed_of-requires c =
    record {}

pub wide-three-requires : goal.wide-three-requires
unfolding solved_of
wide-three-requires c =
    record {}

pub overflow_mul-three : goal.overflow_mul-three
unfolding solved_of
overflow_mul-three c =
    omega (arith, c.wide-three.ensures, c.placed_of.ensures, c.requires.at_bound.2, placed_few c.args.kind c.args.header.bodies)

pub slice_bounds-solve_table-end : goal.slice_bounds-solve_table-end
unfolding solved_of
slice_bounds-solve_table-end c =
    sym (length-take-le _ _ (omega (arith, c.wide-three.ensures, c.placed_of.ensures, c.requires.rows_len.5, placed_within c.args.kind c.args.header.rows c.args.header.bodies)))

pub slice_bounds-solve_table-end-3 : goal.slice_bounds-solve_table-end-3
unfolding solved_of
slice_bounds-solve_table-end-3 c =
    search loops

pub slice_bounds-solve_table-end-4 : goal.slice_bounds-solve_table-end-4
unfolding solved_of
slice_bounds-solve_table-end-4 c =
    search loops

pub slice_bounds-rule_numbers-end : goal.slice_bounds-rule_numbers-end
unfolding solved_of
slice_bounds-rule_numbers-end c =
    omega (arith, c.requires.at_bound.1)

pub solve_table-answer-requires : goal.solve_table-answer-requires
unfolding solved_of
solve_table-answer-requires c =
    record {}

pub accepted_seen-requires : goal.accepted_seen-requires
unfolding solved_of
accepted_seen-requires c =
    record { at_bound = c.requires.at_bound; rows_len = (c.requires.rows_len.0, c.numbers-1.given ∙ c.requires.rows_len.1, c.solution-1.given ∙ c.requires.rows_len.2, c.impulses-1.given ∙ c.requires.rows_len.3, c.new_centres-1.given ∙ c.requires.rows_len.4) }

pub refused_seen-requires : goal.refused_seen-requires
unfolding solved_of
refused_seen-requires c =
    record { rows_bound = (c.requires.at_bound.1, c.requires.at_bound.2); rows_len = (c.requires.rows_len.0, c.numbers-1.given ∙ c.requires.rows_len.1, c.solution-1.given ∙ c.requires.rows_len.2, c.impulses-1.given ∙ c.requires.rows_len.3, c.new_centres-1.given ∙ c.requires.rows_len.4) }

pub returns-in-Ok : goal.returns-in-Ok
unfolding solved_of
returns-in-Ok c =
    solved_accepted c.args.kind _ _ _ _ _ _ _ c.args.beside.now _ _ _ _ _ _ c.tolerance_in-tolerance.ensures (length-take-le _ _ (omega (arith, c.requires.at_bound.1))) (centres_taken c.args.kind c.args.header.bodies c.args.beside.now refl c.wide-three.ensures c.placed_of.ensures) c.solve_table-answer.ensures.answered _ (ap told c.in-Ok.is) c.accepted_seen.ensures

pub returns-in-Err : goal.returns-in-Err
unfolding solved_of
returns-in-Err c =
    solved_refused c.args.kind _ _ _ _ _ _ _ c.args.beside.now _ _ _ _ _ _ c.tolerance_in-tolerance.ensures (length-take-le _ _ (omega (arith, c.requires.at_bound.1))) (centres_taken c.args.kind c.args.header.bodies c.args.beside.now refl c.wide-three.ensures c.placed_of.ensures) c.solve_table-answer.ensures.answered _ (ap told c.in-Err.is) (rw c.number.ensures at c.refused_seen.ensures)
