-- `joint_refusals::judge::row_opens_at` meets its contract. Assumes nothing.
use Rattle.joint_refusals.proofs.judge.row_opens_at.Goals as goal

pub returns : goal.returns
returns c =
    rw (c.row_opens.ensures, c.scalars_at.ensures, c.words_at.ensures)
