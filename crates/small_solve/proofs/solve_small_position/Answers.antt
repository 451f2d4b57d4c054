-- `small_solve::solve_small_position` meets its contract. Assumes nothing.
use native.Mathlib.Omega.{arith}
use Rattle.solve_method.proofs.InPlace.{position_apart}
use Rattle.own_memory.proofs.Lending.{counts_within, passed, job_refused, job_passed}
use Rattle.small_solve.proofs.solve_small_position.Goals as goal

pub returns-then-not-job_fits : goal.returns-then-not-job_fits
returns-then-not-job_fits c =
    job_refused _ _ _ _ _ _ _ _ _ _ (position_apart _ _ _ _) c.job_fits.ensures c.if-not-job_fits.true-raw

pub with_diagonal-requires : goal.with_diagonal-requires
with_diagonal-requires c =
    record { rule_numbers_value = passed c.job_fits.ensures c.if-not-job_fits.false-raw; rows_bound = c.requires; mode_value = c.if-mode-eq0.true }

pub returns-then-mode-eq0 : goal.returns-then-mode-eq0
returns-then-mode-eq0 c =
    job_passed c.job_fits.ensures c.if-not-job_fits.false-raw c.with_diagonal.ensures

pub with_factor-requires : goal.with_factor-requires
with_factor-requires c =
    record { rule_numbers_value = passed c.job_fits.ensures c.if-not-job_fits.false-raw; rows_bound = c.requires; mode_value = c.if-mode-eq1.true }

pub returns-then-mode-eq1 : goal.returns-then-mode-eq1
returns-then-mode-eq1 c =
    job_passed c.job_fits.ensures c.if-not-job_fits.false-raw c.with_factor.ensures

pub with_blocks-requires : goal.with_blocks-requires
with_blocks-requires c =
    record { rule_numbers_value = passed c.job_fits.ensures c.if-not-job_fits.false-raw; rows_bound = c.requires; mode_value = omega (arith, c.if-mode-eq0.false, c.if-mode-eq1.false, counts_within _ _ _ _ _ _ _ _ _ _ _ _ _ _ _ (passed c.job_fits.ensures c.if-not-job_fits.false-raw)) }

pub returns : goal.returns
returns c =
    job_passed c.job_fits.ensures c.if-not-job_fits.false-raw c.with_blocks.ensures
