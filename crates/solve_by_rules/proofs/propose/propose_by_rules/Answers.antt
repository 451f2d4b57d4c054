-- `solve_by_rules::propose::propose_by_rules` meets its contract: what has passed refusal 3 is judged, counted and proposed. Assumes nothing.
use native.Mathlib.Omega.{arith}
use Rattle.loops.proofs.Loop.{loops}
use Rattle.rules.specs.Rows.{rules_in}
use Rattle.preconditioner.specs.Mode.{mode_of}
use Rattle.position_delivery.specs.Outcome.{Lent}
use Rattle.work_memory.specs.Work.{work_memory}
use Rattle.work_memory.proofs.Cleared.{table_since}
use Rattle.work_memory.proofs.Lengths.{fits_three, rows_room, lent_room, work_room, table_room_same}
use Rattle.position_steps.proofs.Openings.{opened_ruled}
use Rattle.solve_by_rules.proofs.Entry.{fits_true, placing, solve_apart, proposed_three, solved_kind}
use Rattle.solve_by_rules.proofs.propose.propose_by_rules.Goals as goal

pub counts_fit-requires : goal.counts_fit-requires
counts_fit-requires c =
    search loops

pub table_fits-requires : goal.table_fits-requires
table_fits-requires c =
    search loops

pub vectors_fit-requires : goal.vectors_fit-requires
vectors_fit-requires c =
    search loops

pub mode_of-requires : goal.mode_of-requires
mode_of-requires c =
    search loops

pub factor_fits-requires : goal.factor_fits-requires
factor_fits-requires c =
    search loops

pub returns-then-not-fits : goal.returns-then-not-fits
returns-then-not-fits c =
    let a = c.args in
    let work = work_memory a.jacobians.now a.links.now a.tolerances.now a.diagonal.now a.residual.now a.pending.now a.direction.now a.product.now a.body_impulses.now a.pattern.now a.order.now a.values.now in
    let fits = fits_three _ _ _ a.numbers.now a.words.now a.masses.now a.solution.now a.impulses.now work _ _ _ _ _
    c.mode_of.ensures c.counts_fit.ensures c.table_fits.ensures c.vectors_fit.ensures c.factor_fits.ensures in
    proposed_three _ _ _ _ _ _ _ _ _ (solve_apart c.args.kind c.args.rows c.args.bodies c.args.numbers.now c.args.words.now c.args.masses.now c.args.centres.now c.args.given.now (rules_in c.args.rule_words.now c.args.rule_tolerances.now) c.args.shift) fits c.if-not-fits.true-raw

pub placed_of-placed-requires : goal.placed_of-placed-requires
placed_of-placed-requires c =
    search loops

pub overflow_cast-placed : goal.overflow_cast-placed
overflow_cast-placed c =
    search loops

pub centres_finite-requires : goal.centres_finite-requires
centres_finite-requires c =
    omega (arith, c.placed_of-placed.ensures, c.requires.centres_len.0)

pub open_table-opened-requires : goal.open_table-opened-requires
open_table-opened-requires c =
    let a = c.args in
    let work = work_memory a.jacobians.now a.links.now a.tolerances.now a.diagonal.now a.residual.now a.pending.now a.direction.now a.product.now a.body_impulses.now a.pattern.now a.order.now a.values.now in
    let fits = fits_three _ _ _ a.numbers.now a.words.now a.masses.now a.solution.now a.impulses.now work _ _ _ _ _
    c.mode_of.ensures c.counts_fit.ensures c.table_fits.ensures c.vectors_fit.ensures c.factor_fits.ensures in
    let passed = fits_true _ _ fits c.if-not-fits.false-raw in
    let rows = rows_room _ _ _ a.numbers.now a.words.now a.masses.now a.solution.now a.impulses.now work passed in
    let room = work_room _ _ _ a.numbers.now a.words.now a.masses.now a.solution.now a.impulses.now work passed a.shift in
    record { rows_in_bounds = (omega (arith, rows.numbers_long), omega (arith, rows.words_long), omega (arith, rows.masses_long), c.requires.rule_tolerances_in_bounds); given_room = c.requires.centres_len.2 }

pub mode_of-requires-2 : goal.mode_of-requires-2
mode_of-requires-2 c =
    search loops

pub count_steps-counted-requires : goal.count_steps-counted-requires
count_steps-counted-requires c =
    let a = c.args in
    let work = work_memory a.jacobians.now a.links.now a.tolerances.now a.diagonal.now a.residual.now a.pending.now a.direction.now a.product.now a.body_impulses.now a.pattern.now a.order.now a.values.now in
    let fits = fits_three _ _ _ a.numbers.now a.words.now a.masses.now a.solution.now a.impulses.now work _ _ _ _ _
    c.mode_of.ensures c.counts_fit.ensures c.table_fits.ensures c.vectors_fit.ensures c.factor_fits.ensures in
    let passed = fits_true _ _ fits c.if-not-fits.false-raw in
    let rows = rows_room _ _ _ a.numbers.now a.words.now a.masses.now a.solution.now a.impulses.now work passed in
    let room = work_room _ _ _ a.numbers.now a.words.now a.masses.now a.solution.now a.impulses.now work passed a.shift in
    record { rows_room = rows; work_room = rw c.mode_of-2.ensures room; rule_tolerances_in_bounds = c.requires.rule_tolerances_in_bounds; given_room = (c.requires.centres_len.2, opened_ruled c.args.kind c.args.rows c.args.bodies c.args.numbers.now c.args.words.now c.args.masses.now c.args.given.now (rules_in c.args.rule_words.now c.args.rule_tolerances.now) c.args.shift _ c.args.limit _ c.open_table-opened.ensures) }

pub place_of-requires : goal.place_of-requires
place_of-requires c =
    search loops

pub propose_and_clear-requires : goal.propose_and_clear-requires
propose_and_clear-requires c =
    let a = c.args in
    let work = work_memory a.jacobians.now a.links.now a.tolerances.now a.diagonal.now a.residual.now a.pending.now a.direction.now a.product.now a.body_impulses.now a.pattern.now a.order.now a.values.now in
    let fits = fits_three _ _ _ a.numbers.now a.words.now a.masses.now a.solution.now a.impulses.now work _ _ _ _ _
    c.mode_of.ensures c.counts_fit.ensures c.table_fits.ensures c.vectors_fit.ensures c.factor_fits.ensures in
    let passed = fits_true _ _ fits c.if-not-fits.false-raw in
    let rows = rows_room _ _ _ a.numbers.now a.words.now a.masses.now a.solution.now a.impulses.now work passed in
    let room = work_room _ _ _ a.numbers.now a.words.now a.masses.now a.solution.now a.impulses.now work passed a.shift in
    let lent = lent_room _ _ _ a.numbers.now a.words.now a.masses.now a.solution.now a.impulses.now work passed in
    let table = table_room_same _ _ _ _ room.table c.jacobians-1.given c.links-1.given c.residual-1.given c.pending-1.given c.body_impulses-1.given in
    record { rows_room = rows; solution_len = lent; place_bound = placing c.args.kind c.args.bodies c.place_of.ensures c.placed_of-placed.ensures c.requires.centres_len.0 c.requires.centres_len.1; table_room = table; stands_after = c.count_steps-counted.ensures.count_held.counted }

pub returns : goal.returns
returns c =
    let a = c.args in
    let work = work_memory a.jacobians.now a.links.now a.tolerances.now a.diagonal.now a.residual.now a.pending.now a.direction.now a.product.now a.body_impulses.now a.pattern.now a.order.now a.values.now in
    let fits = fits_three _ _ _ a.numbers.now a.words.now a.masses.now a.solution.now a.impulses.now work _ _ _ _ _
    c.mode_of.ensures c.counts_fit.ensures c.table_fits.ensures c.vectors_fit.ensures c.factor_fits.ensures in
    let since = table_since _ _ _ _ _ a.jacobians.now a.links.now a.residual.now a.pending.now a.body_impulses.now _
    c.propose_and_clear.ensures.body_impulses_after c.jacobians-1.given c.links-1.given c.residual-1.given c.pending-1.given c.body_impulses-1.given in
    let before : Lent = record { numbers = a.numbers.now; solution = a.solution.now; impulses = a.impulses.now; centres = a.new_centres.now } in
    solved_kind c.args.kind c.args.rows c.args.bodies c.args.numbers.now c.args.words.now c.args.masses.now c.args.centres.now c.args.given.now
    (rules_in c.args.rule_words.now c.args.rule_tolerances.now) c.args.shift (mode_of c.args.mode c.args.shift) c.args.limit before work _ _ fits c.requires.centres_len.0 _ c.mode_of-2.ensures _ c.placed_of-placed.ensures _ c.centres_finite.ensures _ c.open_table-opened.ensures _ c.place_of.ensures
    _ _ _ _ _ _ _ _ _ _ c.if-not-fits.false-raw c.count_steps-counted.ensures.count_held c.propose_and_clear.ensures.centres_value since
