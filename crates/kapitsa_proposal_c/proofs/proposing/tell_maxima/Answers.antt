-- `kapitsa_proposal_c::proposing::tell_maxima` meets its contract. Assumes nothing.
use native.Mathlib.Omega.{arith}
use Rattle.loops.proofs.Loop.{loops}
use Rattle.kapitsa_proposal_c.proofs.Proposals.{maxima_accepted, maxima_refused}
use mathlib.Core.Path.{ap}
use Rattle.refusals.specs.Told.{told}
use Rattle.kapitsa_proposal_c.proofs.proposing.tell_maxima.Goals as goal

pub bounds-maxima-0 : goal.bounds-maxima-0
bounds-maxima-0 c =
    omega (arith, c.requires)

pub bounds-maxima-1 : goal.bounds-maxima-1
bounds-maxima-1 c =
    search loops

pub returns-in-Ok : goal.returns-in-Ok
returns-in-Ok c =
    maxima_accepted _ _ _ (ap told c.in-Ok.is) c.requires

pub returns-in-Err : goal.returns-in-Err
returns-in-Err c =
    rw c.number.ensures (maxima_refused _ _ _ (ap told c.in-Err.is))
