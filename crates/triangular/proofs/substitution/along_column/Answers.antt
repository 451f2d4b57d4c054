-- `triangular::substitution::along_column` meets its contract. Assumes nothing.
use Rattle.sparse.proofs.Hop.{hop_more, hops}
use Rattle.triangular.proofs.Down.{down_rising}
use Rattle.triangular.proofs.Solves.{down_skip, down_way}
use Rattle.triangular.proofs.substitution.along_column.Goals as goal

ruleset known = (down_rising, down_skip, down_way, hops)

pub loop-q-init : goal.loop-q-init
loop-q-init c =
    search known

pub loop-q-preserved : goal.loop-q-preserved
loop-q-preserved c =
    let s = c.column_stretch-column.ensures in
    let inv = c.loop-q.invariant in
    hop_more inv (search known) (down_way s _ _ _ _ _ _ _ inv.from (search known) c.place_at-p.ensures.0 c.home-r.ensures.0 c.term-rest.ensures) (down_skip s _ _ _)

pub returns : goal.returns
returns c =
    search known
