-- `position::start::negate_errors` meets its contract: the residuals below i stand. Assumes nothing.
use Rattle.loops.proofs.Fill.{fills}
use Rattle.loops.proofs.Tabulate.{filled_tabulate}
use Rattle.position.proofs.start.negate_errors.Goals as goal

ruleset known = (filled_tabulate, fills)

pub returns : goal.returns
returns c =
    search known
