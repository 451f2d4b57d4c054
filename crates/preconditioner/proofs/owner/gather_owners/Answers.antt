-- `preconditioner::owner::gather_owners` meets its contract: the rows below i have their owner. Assumes nothing.
use Rattle.loops.proofs.Fill.{fills}
use Rattle.loops.proofs.Tabulate.{filled_tabulate}
use Rattle.preconditioner.proofs.owner.gather_owners.Goals as goal

ruleset known = (filled_tabulate, fills)

pub returns : goal.returns
returns c =
    search known
