-- `solve_replay::answer::flag` meets its contract. Assumes nothing.
use native.Mathlib.Omega.{arith}
use Rattle.solve_replay.proofs.answer.flag.Goals as goal

pub returns-then-holds : goal.returns-then-holds
returns-then-holds c =
    record { value = rw c.if-holds.true; upper_bound = omega arith }

pub returns : goal.returns
returns c =
    record { value = rw c.if-holds.false; upper_bound = omega arith }
