-- `position::residual::residual_maxima` meets its contract: maxima are those of the rows below i. Assumes nothing.
use Prim.Native.Nat.{◌*◌, ◌+◌}
use lib.ListN.{get_or, length}
use lib.Ieee.{nan}
use Rattle.kapitsa_joint.specs.Tolerance.{dimension_of}
use Rattle.binary64.specs.Order.{absolute}
use Rattle.kapitsa_joint.proofs.Largest.{Largest}
use Rattle.position.proofs.residual.residual_maxima.Given as goal

abbrev pub invariant-loop-i : goal.invariant-loop-i
invariant-loop-i l =
    Largest (λ k. dimension_of (get_or l.words (8 * k + 1) 0)) (λ k. absolute (get_or l.residual k nan)) (length l.residual) l.i l.maxima
