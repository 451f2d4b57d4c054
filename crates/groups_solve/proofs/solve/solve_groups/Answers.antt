-- `groups_solve::solve::solve_groups` meets its contract. Assumes nothing.
use Rattle.rules.specs.Rows.{rules_in}
use Rattle.group_step.specs.Bench.{bench_of}
use Rattle.groups_solve.proofs.Rooms.{bench_room, table_room, told_room, judged_rooms, linked_passed}
use Rattle.groups_solve.proofs.Entered.{passed_job, passed_groups, groups_three, groups_refused, groups_solved}
use Rattle.groups_solve.proofs.solve.solve_groups.Goals as goal

pub returns-then-not-job_fits-lent : goal.returns-then-not-job_fits-lent
returns-then-not-job_fits-lent c =
    groups_three (bench_of c.args.kind c.args.rows c.args.bodies c.args.words.now c.args.masses.now c.args.centres.now c.args.given.now (rules_in c.args.rule_words.now c.args.rule_tolerances.now) c.args.limit c.args.mode c.args.shift) _ c.job_fits.ensures c.groups_lent-lent.ensures c.if-not-job_fits-lent.true-raw

pub judge_bench-requires : goal.judge_bench-requires
judge_bench-requires c =
    judged_rooms c.args.kind c.args.rows c.args.bodies c.args.mode c.args.numbers.now c.args.words.now c.args.masses.now c.args.solution.now c.args.impulses.now c.args.centres.now c.args.new_centres.now c.args.rule_words.now c.args.rule_tolerances.now c.args.rule_numbers.now c.args.given.now (passed_job c.job_fits.ensures c.groups_lent-lent.ensures c.if-not-job_fits-lent.false-raw)

pub returns-in_err-judge_bench : goal.returns-in_err-judge_bench
returns-in_err-judge_bench c =
    groups_refused (bench_of c.args.kind c.args.rows c.args.bodies c.args.words.now c.args.masses.now c.args.centres.now c.args.given.now (rules_in c.args.rule_words.now c.args.rule_tolerances.now) c.args.limit c.args.mode c.args.shift) _
    c.job_fits.ensures c.groups_lent-lent.ensures c.if-not-job_fits-lent.false-raw _ _ _ c.judge_bench.ensures c.in_err-judge_bench.was c.from_residual.ensures.1

pub solve_bench-requires-clause-group_numbers_len : goal.solve_bench-requires-clause-group_numbers_len
solve_bench-requires-clause-group_numbers_len c = (
  (told_room c.args.rows c.args.group_numbers.now c.args.group_answers.now c.args.group_maxima.now
      (passed_groups c.job_fits.ensures c.groups_lent-lent.ensures c.if-not-job_fits-lent.false-raw)).0,
  linked_passed (bench_of c.args.kind c.args.rows c.args.bodies c.args.words.now c.args.masses.now c.args.centres.now c.args.given.now (rules_in c.args.rule_words.now c.args.rule_tolerances.now) c.args.limit c.args.mode c.args.shift)
      c.args.numbers.now c.judge_bench.ensures c.in_ok-judge_bench.was,
)

pub solve_bench-requires-clause-bench_room : goal.solve_bench-requires-clause-bench_room
solve_bench-requires-clause-bench_room c =
    bench_room c.args.kind c.args.rows c.args.bodies c.args.mode c.args.numbers.now c.args.words.now c.args.masses.now c.args.solution.now c.args.impulses.now c.args.centres.now c.args.new_centres.now c.args.rule_words.now c.args.rule_tolerances.now c.args.rule_numbers.now c.args.given.now
    (passed_job c.job_fits.ensures c.groups_lent-lent.ensures c.if-not-job_fits-lent.false-raw)

pub solve_bench-requires-clause-table_room : goal.solve_bench-requires-clause-table_room
solve_bench-requires-clause-table_room c = (
  table_room c.args.kind c.args.rows c.args.bodies c.args.mode c.args.numbers.now c.args.words.now c.args.masses.now c.args.solution.now c.args.impulses.now c.args.centres.now c.args.new_centres.now c.args.rule_words.now c.args.rule_tolerances.now c.args.rule_numbers.now c.args.given.now
      (passed_job c.job_fits.ensures c.groups_lent-lent.ensures c.if-not-job_fits-lent.false-raw),
  (told_room c.args.rows c.args.group_numbers.now c.args.group_answers.now c.args.group_maxima.now
      (passed_groups c.job_fits.ensures c.groups_lent-lent.ensures c.if-not-job_fits-lent.false-raw)).1,
)

pub returns : goal.returns
returns c =
    groups_solved (bench_of c.args.kind c.args.rows c.args.bodies c.args.words.now c.args.masses.now c.args.centres.now c.args.given.now (rules_in c.args.rule_words.now c.args.rule_tolerances.now) c.args.limit c.args.mode c.args.shift) _
    c.job_fits.ensures c.groups_lent-lent.ensures c.if-not-job_fits-lent.false-raw _ _ _ c.judge_bench.ensures c.in_ok-judge_bench.was c.solve_bench.ensures
