-- `triangular::substitution::home` meets its contract. Assumes nothing.
use Rattle.triangular.proofs.Down.{down_home}
use Rattle.triangular.proofs.substitution.home.Goals as goal

pub returns : goal.returns
returns c =
    down_home c.requires.spread _ _ _ c.wide.ensures c.wide-2.ensures c.requires.first_le_q.0 c.requires.first_le_q.1
