-- `triangular::substitution::along_row` meets its contract. Assumes nothing.
use native.Mathlib.Omega.{arith}
use Rattle.sparse.proofs.Hop.{hop_none, hops}
use Rattle.triangular.proofs.Solves.{along_skip, along_way}
use Rattle.triangular.proofs.substitution.along_row.Goals as goal

ruleset known = (along_skip, along_way, hops)

pub loop-p-init : goal.loop-p-init
loop-p-init c =
    search (hop_none, along_skip, arith)

pub loop-p-preserved : goal.loop-p-preserved
loop-p-preserved c =
    search known

pub returns : goal.returns
returns c =
    search known
