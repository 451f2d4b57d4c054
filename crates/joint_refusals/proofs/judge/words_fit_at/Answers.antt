-- `joint_refusals::judge::words_fit_at` meets its contract. Assumes nothing.
use Rattle.joint_refusals.proofs.judge.words_fit_at.Goals as goal

pub returns : goal.returns
returns c =
    rw (c.row_words_fit.ensures, c.words_at.ensures)
