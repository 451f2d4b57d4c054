-- `check_work::impulse::sum_impulses` meets its contract: after i turns each body has the impulses of the rows below i. Assumes nothing.
use Rattle.loops.proofs.Loop.{loops}
use Rattle.mass_operator.proofs.Sums.{none_yet}
use Rattle.check_work.proofs.Added.{one_more}
use Rattle.check_work.proofs.Bodies.{below_a, below_b, size_below_a, size_below_b, room}
use Rattle.check_work.proofs.impulse.sum_impulses.Goals as goal

ruleset known = (one_more, below_a, below_b, size_below_a, size_below_b, room, loops)

pub loop-i-init : goal.loop-i-init
loop-i-init c = (
  none_yet _ _ _ c.args.impulses.now c.requires.impulses_len.0 c.clear.ensures,
  none_yet _ _ _ c.args.size_impulses.now c.requires.impulses_len.1 c.clear-2.ensures,
)

pub add_both-requires : goal.add_both-requires
add_both-requires c = search known

pub loop-i-preserved : goal.loop-i-preserved
loop-i-preserved c = search known

pub returns : goal.returns
returns c = search known
