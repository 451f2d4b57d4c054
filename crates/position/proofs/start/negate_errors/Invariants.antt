-- `position::start::negate_errors` meets its contract: the residuals below i stand. Assumes nothing.
use Prim.Native.Nat.{◌+◌, ◌*◌}
use lib.ListN.{length, get_or}
use lib.Ieee.{nan, neg}
use Rattle.loops.proofs.Fill.{Fills}
use Rattle.position.proofs.start.negate_errors.Given as goal

abbrev pub invariant-loop-i : goal.invariant-loop-i
invariant-loop-i l =
    Fills nan (λ k. neg (get_or l.numbers (27 * k + 15) nan)) (length l.initial.residual) l.i l.residual
