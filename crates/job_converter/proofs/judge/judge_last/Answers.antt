-- `job_converter::judge::judge_last` meets its contract. Assumes nothing.
use Rattle.std.proofs.Common.{sym, ◌∙◌}
use Rattle.job_converter.proofs.Ways.{keys_same, last_4, last_24, last_none}
use Rattle.job_converter.proofs.judge.judge_last.Goals as goal

pub keys_fit-requires : goal.keys_fit-requires
keys_fit-requires c = c.requires.rows_inside

pub returns-then-not-keys_fit : goal.returns-then-not-keys_fit
returns-then-not-keys_fit c = last_4 _ _ (sym (keys_same c.requires c.keys_fit.ensures) ∙ c.if-not-keys_fit.true)

pub returns-then-not-file_centres_fit : goal.returns-then-not-file_centres_fit
returns-then-not-file_centres_fit c =
    let keys = sym (keys_same c.requires c.keys_fit.ensures) ∙ c.if-not-keys_fit.false in
    last_24 _ _ keys (sym c.file_centres_fit.ensures ∙ c.if-not-file_centres_fit.true)

pub returns : goal.returns
returns c =
    let keys = sym (keys_same c.requires c.keys_fit.ensures) ∙ c.if-not-keys_fit.false in
    last_none _ _ keys (sym c.file_centres_fit.ensures ∙ c.if-not-file_centres_fit.false)
