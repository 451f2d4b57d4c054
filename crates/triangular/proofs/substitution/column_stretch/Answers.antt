-- `triangular::substitution::column_stretch` meets its contract. Assumes nothing.
use Rattle.loops.proofs.Loop.{loops}
use Rattle.triangular.proofs.Down.{spread_first, spread_later}
use Rattle.triangular.proofs.substitution.column_stretch.Goals as goal

ruleset known = (spread_first, spread_later, loops)

pub returns-then-j-eq0 : goal.returns-then-j-eq0
returns-then-j-eq0 c =
    search known

pub returns : goal.returns
returns c =
    search known
