-- `kapitsa_c::solving::tell` meets its contract. Assumes nothing.
use native.Mathlib.Omega.{arith}
use Rattle.loops.proofs.Loop.{loops}
use Rattle.kapitsa_c.proofs.Telling.{told_accepted, told_refused}
use mathlib.Core.Path.{ap}
use Rattle.refusals.specs.Told.{told}
use Rattle.kapitsa_c.proofs.solving.tell.Goals as goal

ruleset known = (loops)

pub bounds-counts-0 : goal.bounds-counts-0
bounds-counts-0 c =
    omega (arith, c.requires.0)

pub overflow_cast-counts : goal.overflow_cast-counts
overflow_cast-counts c =
    search known

pub bounds-counts-1 : goal.bounds-counts-1
bounds-counts-1 c =
    search known

pub bounds-maxima-0 : goal.bounds-maxima-0
bounds-maxima-0 c =
    omega (arith, c.requires.1)

pub bounds-maxima-1 : goal.bounds-maxima-1
bounds-maxima-1 c =
    search known

pub returns-in-Ok : goal.returns-in-Ok
returns-in-Ok c =
    told_accepted _ _ _ _ (ap told c.in-Ok.is) c.requires

pub returns-in-Err : goal.returns-in-Err
returns-in-Err c =
    rw c.number.ensures (told_refused _ _ _ _ (ap told c.in-Err.is))
