-- `preconditioner::shift::shift_diagonal` meets its contract: the first i numbers are scaled, the others those at entry. Assumes nothing.
use mathlib.Core.Path.{refl}
use Rattle.loops.proofs.Loop.{loops}
use Rattle.preconditioner.proofs.InPlace.{changes_more, changes_none}
use Rattle.preconditioner.proofs.Shifted.{scaling, diagonal_shifted}
use Rattle.preconditioner.proofs.shift.shift_diagonal.Goals as goal

ruleset known = (diagonal_shifted, changes_none, loops)

pub loop-i-preserved : goal.loop-i-preserved
unfolding scaling
loop-i-preserved c =
    changes_more c.loop-i.invariant (search known) refl

pub returns : goal.returns
unfolding scaling
returns c =
    search known
