-- `proposals::noting::copy_multipliers` meets its contract: the first i multipliers are written. Assumes nothing.
use Rattle.loops.proofs.Fill.{fills_none, fills_more}
use Rattle.loops.proofs.Loop.{loops}
use Rattle.loops.proofs.Tabulate.{filled_tabulate}
use Rattle.proposals.proofs.noting.copy_multipliers.Goals as goal

ruleset known = (fills_none, fills_more, filled_tabulate, loops)

pub returns : goal.returns
returns c =
    search known
