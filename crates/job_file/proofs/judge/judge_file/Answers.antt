-- `job_file::judge::judge_file` meets its contract. Assumes nothing.
use Rattle.std.proofs.Common.{refl, ◌∙◌}
use Rattle.refusals.proofs.Again.{told_again}
use Rattle.job_file.proofs.Judgement.{judged_early, rows_inside, judged_4, judged_passed}
use Rattle.job_file.proofs.judge.judge_file.Goals as goal

pub returns-in_err-trailer : goal.returns-in_err-trailer
returns-in_err-trailer c = told_again _ _ c.from_residual.ensures.1 ∙ judged_early _ c.in_err-trailer.ensures refl

pub keys_fit-requires : goal.keys_fit-requires
keys_fit-requires c = rows_inside _ c.in_ok-trailer.ensures refl

pub returns-then-not-keys_fit : goal.returns-then-not-keys_fit
returns-then-not-keys_fit c = judged_4 _ c.in_ok-trailer.ensures refl c.keys_fit.ensures c.if-not-keys_fit.true

pub returns : goal.returns
returns c = judged_passed _ c.in_ok-trailer.ensures refl c.keys_fit.ensures c.if-not-keys_fit.false
