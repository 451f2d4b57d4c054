-- `group_step::tell::tell_maxima` meets its contract. Assumes nothing.
use native.Mathlib.Omega.{arith}
use lib.ListN.{length-set}
use Rattle.group_step.proofs.Telling.{maxima_put}
use Rattle.group_step.proofs.tell.tell_maxima.Goals as goal

pub bounds-maxima-at-2 : goal.bounds-maxima-at-2
bounds-maxima-at-2 c =
    omega (arith, length-set (c).args.maxima.now (c).args.at (c).args.linear, (c).requires)

pub returns : goal.returns
returns c =
    maxima_put _ _ _ _ (c).requires
