-- `position_solve::solve::solve_table` meets its contract. Assumes nothing.
use native.Mathlib.Omega.{arith}
use Rattle.rules.specs.Rows.{rules_in}
use Rattle.solve_by_rules.proofs.Entry.{solve_apart}
use Rattle.own_memory.proofs.Lending.{counts_within, passed, job_refused, job_passed}
use Rattle.position_solve.proofs.solve.solve_table.Goals as goal

pub returns-then-not-job_fits : goal.returns-then-not-job_fits
returns-then-not-job_fits c =
    job_refused _ _ _ _ _ _ _ _ _ _ (solve_apart c.args.kind c.args.rows c.args.bodies c.args.numbers.now c.args.words.now c.args.masses.now c.args.centres.now c.args.given.now (rules_in c.args.rule_words.now c.args.rule_tolerances.now) c.args.shift) c.job_fits.ensures c.if-not-job_fits.true-raw

pub with_diagonal-requires : goal.with_diagonal-requires
with_diagonal-requires c =
    record { given_value = passed c.job_fits.ensures c.if-not-job_fits.false-raw; rows_bound = ((counts_within _ _ _ _ _ _ _ _ _ _ _ _ _ _ _ (passed c.job_fits.ensures c.if-not-job_fits.false-raw)).0, (counts_within _ _ _ _ _ _ _ _ _ _ _ _ _ _ _ (passed c.job_fits.ensures c.if-not-job_fits.false-raw)).1); mode_value = c.if-mode-eq0.true }

pub returns-then-mode-eq0 : goal.returns-then-mode-eq0
returns-then-mode-eq0 c =
    job_passed c.job_fits.ensures c.if-not-job_fits.false-raw c.with_diagonal.ensures

pub with_factor-requires : goal.with_factor-requires
with_factor-requires c =
    record { given_value = passed c.job_fits.ensures c.if-not-job_fits.false-raw; rows_bound = ((counts_within _ _ _ _ _ _ _ _ _ _ _ _ _ _ _ (passed c.job_fits.ensures c.if-not-job_fits.false-raw)).0, (counts_within _ _ _ _ _ _ _ _ _ _ _ _ _ _ _ (passed c.job_fits.ensures c.if-not-job_fits.false-raw)).1); mode_value = c.if-mode-eq1.true }

pub returns-then-mode-eq1 : goal.returns-then-mode-eq1
returns-then-mode-eq1 c =
    job_passed c.job_fits.ensures c.if-not-job_fits.false-raw c.with_factor.ensures

pub with_blocks-requires : goal.with_blocks-requires
with_blocks-requires c =
    record { given_value = passed c.job_fits.ensures c.if-not-job_fits.false-raw; rows_bound = ((counts_within _ _ _ _ _ _ _ _ _ _ _ _ _ _ _ (passed c.job_fits.ensures c.if-not-job_fits.false-raw)).0, (counts_within _ _ _ _ _ _ _ _ _ _ _ _ _ _ _ (passed c.job_fits.ensures c.if-not-job_fits.false-raw)).1); mode_value = omega (arith, c.if-mode-eq0.false, c.if-mode-eq1.false, counts_within _ _ _ _ _ _ _ _ _ _ _ _ _ _ _ (passed c.job_fits.ensures c.if-not-job_fits.false-raw)) }

pub returns : goal.returns
returns c =
    job_passed c.job_fits.ensures c.if-not-job_fits.false-raw c.with_blocks.ensures
