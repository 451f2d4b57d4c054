-- `rules::rows::ruled_tolerance` meets its contract. Assumes nothing.
use Rattle.rules.proofs.rows.ruled_tolerance.Goals as goal

pub returns : goal.returns
returns c =
    cc
