-- `rules::rows::row_tolerance` meets its contract. Assumes nothing.
use Rattle.rules.proofs.rows.row_tolerance.Goals as goal

pub returns : goal.returns
returns c =
    cc
