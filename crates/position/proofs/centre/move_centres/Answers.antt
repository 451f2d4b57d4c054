-- `position::centre::move_centres` meets its contract: the bodies below b have their new centre. Assumes nothing.
use Rattle.loops.proofs.Loop.{loops}
use Rattle.position.proofs.Moved.{moves_none, moves_more, moves_end}
use Rattle.position.proofs.centre.move_centres.Goals as goal

ruleset known = (moves_none, moves_more, moves_end, loops)

pub loop-b-preserved : goal.loop-b-preserved
loop-b-preserved c =
    moves_more c.loop-b.invariant c.loop-b-test.true c.moved_at.ensures c.put_vec.ensures

pub returns : goal.returns
returns c =
    search known
