-- `job_sheet::sheet::write_job` meets its contract. Assumes nothing.
use mathlib.Core.Path.{refl, ap}
use lib.ListN.{replicate}
use lib.Seq.{length-take-le}
use Rattle.listing.proofs.Joined.{wrote_as}
use Rattle.job_sheet.proofs.Ways.{room_after, solve_fits_lem, job_odd, job_refused, job_accepted}
use Rattle.refusals.specs.Told.{told}
use Rattle.job_sheet.proofs.sheet.write_job.Goals as goal

pub write_turned-requires : goal.write_turned-requires
write_turned-requires c =
    c.requires.in_bounds

pub returns-then-not-tolerances_fit : goal.returns-then-not-tolerances_fit
returns-then-not-tolerances_fit c =
    let a = c.args in wrote_as (job_odd a.sheet a.trailer a.numbers.now a.words.now a.masses.now a.centres.now c.tolerances_fit.ensures c.if-not-tolerances_fit.true-raw) c.write_turned.ensures

pub slice_bounds-rule_numbers-end : goal.slice_bounds-rule_numbers-end
slice_bounds-rule_numbers-end c =
    c.requires.job_room.few_rows

pub solve_small_position-answer-requires : goal.solve_small_position-answer-requires
solve_small_position-answer-requires c =
    (c.requires.job_room.few_rows, c.requires.job_room.few_bodies)

pub write_turned-requires-in-Err : goal.write_turned-requires-in-Err
write_turned-requires-in-Err c =
    c.requires.in_bounds

pub write_solved-requires : goal.write_solved-requires
write_solved-requires c =
    record { job_room = room_after c.requires.job_room c.numbers-1.given refl refl refl c.solution-1.given c.impulses-1.given c.new_centres-1.given; in_bounds = c.requires.in_bounds }

pub returns-in-Err : goal.returns-in-Err
returns-in-Err c =
    let a = c.args in
    let room = c.requires.job_room in
    let fits = solve_fits_lem room (length-take-le a.trailer.rows (replicate 128 0) room.few_rows) in
    wrote_as (job_refused a.sheet a.trailer a.numbers.now a.words.now a.masses.now a.centres.now c.tolerances_fit.ensures c.if-not-tolerances_fit.false-raw a.solution.now a.impulses.now a.new_centres.now fits c.solve_small_position-answer.ensures (ap told c.in-Err.is)) (rw c.number.ensures at c.write_turned-in-Err.ensures)

pub returns-in-Ok : goal.returns-in-Ok
returns-in-Ok c =
    let a = c.args in
    let room = c.requires.job_room in
    let fits = solve_fits_lem room (length-take-le a.trailer.rows (replicate 128 0) room.few_rows) in
    wrote_as (job_accepted a.sheet a.trailer a.numbers.now a.words.now a.masses.now a.centres.now c.tolerances_fit.ensures c.if-not-tolerances_fit.false-raw a.solution.now a.impulses.now a.new_centres.now fits c.solve_small_position-answer.ensures _ (ap told c.in-Ok.is)) c.write_solved.ensures
