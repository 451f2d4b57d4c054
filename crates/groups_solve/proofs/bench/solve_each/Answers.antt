-- `groups_solve::bench::solve_each` meets its contract: the groups below g are solved. Assumes nothing.
use mathlib.Core.Path.{sym}
use native.Mathlib.Omega.{arith}
use lib.Seq.{length-take-le}
use Rattle.rules.specs.Rows.{rules_in}
use Rattle.group_table.proofs.Rows.{rows_within}
use Rattle.group_step.specs.Bench.{bench_of}
use Rattle.group_step.proofs.Delivery.{placed_few}
use Rattle.groups_solve.proofs.Rounds.{round_more, own_room, fit_1, fit_8, fit_27, fit_6, fit_3, fit_placed, within_long, front_long}
use Rattle.groups_solve.proofs.bench.solve_each.Goals as goal

pub overflow_cast-k : goal.overflow_cast-k
overflow_cast-k c = omega (arith, c.count_rows-k.ensures, rows_within c.args.groups.now c.loop-g.g c.args.rows, c.requires.bench_room.rows_few)

pub overflow_mul-own_numbers : goal.overflow_mul-own_numbers
overflow_mul-own_numbers c = omega (arith, c.count_rows-k.ensures, rows_within c.args.groups.now c.loop-g.g c.args.rows, c.requires.bench_room.rows_few)

pub slice_bounds-own_numbers-end : goal.slice_bounds-own_numbers-end
slice_bounds-own_numbers-end c =
    within_long (fit_27 c.count_rows-k.ensures (rows_within c.args.groups.now c.loop-g.g c.args.rows) c.requires.bench_room.rows_few) c.loop-g.invariant.1.numbers_long

pub slice_bounds-solve_group-end : goal.slice_bounds-solve_group-end
slice_bounds-solve_group-end c =
    sym (length-take-le _ _ (within_long (fit_27 c.count_rows-k.ensures (rows_within c.args.groups.now c.loop-g.g c.args.rows) c.requires.bench_room.rows_few) c.loop-g.invariant.1.numbers_long))

pub overflow_mul-own_words : goal.overflow_mul-own_words
overflow_mul-own_words c = omega (arith, c.count_rows-k.ensures, rows_within c.args.groups.now c.loop-g.g c.args.rows, c.requires.bench_room.rows_few)

pub slice_bounds-own_words-end : goal.slice_bounds-own_words-end
slice_bounds-own_words-end c =
    within_long (fit_8 c.count_rows-k.ensures (rows_within c.args.groups.now c.loop-g.g c.args.rows) c.requires.bench_room.rows_few) c.loop-g.invariant.1.words_long

pub slice_bounds-solve_group-end-in-loop-g : goal.slice_bounds-solve_group-end-in-loop-g
slice_bounds-solve_group-end-in-loop-g c =
    sym (length-take-le _ _ (within_long (fit_8 c.count_rows-k.ensures (rows_within c.args.groups.now c.loop-g.g c.args.rows) c.requires.bench_room.rows_few) c.loop-g.invariant.1.words_long))

pub slice_bounds-own_given-end : goal.slice_bounds-own_given-end
slice_bounds-own_given-end c =
    within_long (fit_1 c.count_rows-k.ensures (rows_within c.args.groups.now c.loop-g.g c.args.rows) c.requires.bench_room.rows_few) c.loop-g.invariant.1.given_long

pub slice_bounds-solve_group-end-in-loop-g-2 : goal.slice_bounds-solve_group-end-in-loop-g-2
slice_bounds-solve_group-end-in-loop-g-2 c =
    sym (length-take-le _ _ (within_long (fit_1 c.count_rows-k.ensures (rows_within c.args.groups.now c.loop-g.g c.args.rows) c.requires.bench_room.rows_few) c.loop-g.invariant.1.given_long))

pub slice_bounds-own_solution-end : goal.slice_bounds-own_solution-end
slice_bounds-own_solution-end c =
    within_long (fit_1 c.count_rows-k.ensures (rows_within c.args.groups.now c.loop-g.g c.args.rows) c.requires.bench_room.rows_few) c.loop-g.invariant.1.solution_long

pub slice_bounds-solve_group-end-in-loop-g-3 : goal.slice_bounds-solve_group-end-in-loop-g-3
slice_bounds-solve_group-end-in-loop-g-3 c =
    sym (length-take-le _ _ (within_long (fit_1 c.count_rows-k.ensures (rows_within c.args.groups.now c.loop-g.g c.args.rows) c.requires.bench_room.rows_few) c.loop-g.invariant.1.solution_long))

pub slice_bounds-own_rules-end : goal.slice_bounds-own_rules-end
slice_bounds-own_rules-end c =
    within_long (fit_1 c.count_rows-k.ensures (rows_within c.args.groups.now c.loop-g.g c.args.rows) c.requires.bench_room.rows_few) c.loop-g.invariant.1.rules_long

pub slice_bounds-solve_group-end-in-loop-g-6 : goal.slice_bounds-solve_group-end-in-loop-g-6
slice_bounds-solve_group-end-in-loop-g-6 c =
    sym (length-take-le _ _ (within_long (fit_1 c.count_rows-k.ensures (rows_within c.args.groups.now c.loop-g.g c.args.rows) c.requires.bench_room.rows_few) c.loop-g.invariant.1.rules_long))

pub loop-g-preserved : goal.loop-g-preserved
loop-g-preserved c =
    (round_more (bench_of c.args.kind c.args.rows c.args.bodies c.args.words.now c.args.masses.now c.args.centres.now c.args.given.now (rules_in c.args.rule_words.now c.args.rule_tolerances.now) c.args.limit c.args.mode c.args.shift) c.args.marks.now c.args.groups.now c.loop-g.invariant.0 c.loop-g-test.true c.solve_group.ensures c.numbers-1.given c.solution-1.given c.impulses-1.given c.new_centres-1.given c.rule_numbers-1.given c.group_answers-1.given c.group_maxima-1.given, record { numbers_long = front_long _ _ c.solve_group.new.own_numbers (fit_27 c.count_rows-k.ensures (rows_within c.args.groups.now c.loop-g.g c.args.rows) c.requires.bench_room.rows_few) c.loop-g.invariant.1.numbers_long c.own_numbers-in-loop-g-1.given; words_long = front_long _ _ c.solve_group.new.own_words (fit_8 c.count_rows-k.ensures (rows_within c.args.groups.now c.loop-g.g c.args.rows) c.requires.bench_room.rows_few) c.loop-g.invariant.1.words_long c.own_words-in-loop-g-1.given; given_long = front_long _ _ c.solve_group.new.own_given (fit_1 c.count_rows-k.ensures (rows_within c.args.groups.now c.loop-g.g c.args.rows) c.requires.bench_room.rows_few) c.loop-g.invariant.1.given_long c.own_given-in-loop-g-1.given; solution_long = front_long _ _ c.solve_group.new.own_solution (fit_1 c.count_rows-k.ensures (rows_within c.args.groups.now c.loop-g.g c.args.rows) c.requires.bench_room.rows_few) c.loop-g.invariant.1.solution_long c.own_solution-in-loop-g-1.given; impulses_long = front_long _ _ c.solve_group.new.own_impulses (fit_6 c.requires.bench_room.bodies_few) c.loop-g.invariant.1.impulses_long c.own_impulses-in-loop-g-1.given; centres_long = front_long _ _ c.solve_group.new.own_centres (fit_3 c.placed_of.ensures (placed_few c.args.kind c.args.bodies) c.requires.bench_room.bodies_few) c.loop-g.invariant.1.centres_long c.own_centres-in-loop-g-1.given; rules_long = front_long _ _ c.solve_group.new.own_rules (fit_1 c.count_rows-k.ensures (rows_within c.args.groups.now c.loop-g.g c.args.rows) c.requires.bench_room.rows_few) c.loop-g.invariant.1.rules_long c.own_rules-in-loop-g-1.given })

pub solve_group-requires-clause-own_room : goal.solve_group-requires-clause-own_room
solve_group-requires-clause-own_room c =
    let held = c.loop-g.invariant.1 in
    own_room c.args.kind c.args.bodies _ _ _ _ _ _ _ _ _ (fit_1 c.count_rows-k.ensures (rows_within c.args.groups.now c.loop-g.g c.args.rows) c.requires.bench_room.rows_few) c.requires.bench_room.bodies_few
    (fit_placed c.placed_of.ensures (placed_few c.args.kind c.args.bodies) c.requires.bench_room.bodies_few) c.placed_of.ensures
    held.numbers_long held.words_long held.given_long held.solution_long held.impulses_long held.centres_long held.rules_long
