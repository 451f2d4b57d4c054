-- `triangular::substitution::place_at` meets its contract. Assumes nothing.
use Rattle.triangular.proofs.Down.{down_place}
use Rattle.triangular.proofs.substitution.place_at.Goals as goal

pub returns : goal.returns
returns c =
    down_place c.requires.spread _ _ c.wide.ensures c.requires.first_le_q.0 c.requires.first_le_q.1
