-- `mass_operator::impulse::sum_impulses` meets its contract: between two runs the slice has the impulses of the rows below i. Assumes nothing.
use native.Mathlib.Omega.{arith}
use Rattle.loops.proofs.Loop.{loops}
use Rattle.mass_operator.proofs.BodyPairs.{put_back}
use Rattle.mass_operator.proofs.Room.{held_a, held_b, linked_a, linked_b}
use Rattle.mass_operator.proofs.Sums.{all_rows, none_yet}
use Rattle.mass_operator.proofs.impulse.sum_impulses.Goals as goal

ruleset known = (linked_a, linked_b, held_a, held_b, loops)

pub clear-requires : goal.clear-requires
clear-requires c =
    search known

pub loop-i-init : goal.loop-i-init
loop-i-init c =
    (search known, none_yet _ _ _ c.args.impulses.now c.requires.impulses_len.0 c.clear.ensures)

pub add_run-run-requires : goal.add_run-run-requires
add_run-run-requires c =
    search known

pub put_body_pair-requires : goal.put_body_pair-requires
put_body_pair-requires c =
    let held = c.add_run-run.ensures.held _ c.requires.impulses_len.1 c.loop-i.invariant.1 in search known

pub loop-i-smaller : goal.loop-i-smaller
loop-i-smaller c =
    omega (arith, c.add_run-run.ensures.more, c.add_run-run.ensures.within)

pub loop-i-preserved : goal.loop-i-preserved
loop-i-preserved c =
    (c.add_run-run.ensures.within, put_back (c.add_run-run.ensures.held _ c.requires.impulses_len.1 c.loop-i.invariant.1) c.put_body_pair.ensures)

pub returns : goal.returns
returns c =
    all_rows c.loop-i.invariant.1 (search known) (search known)
