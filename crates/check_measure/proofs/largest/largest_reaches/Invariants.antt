-- `check_measure::largest::largest_reaches` meets its contract: maxima are those of the rows below i. Assumes nothing.
use Prim.Native.Nat.{◌*◌, ◌+◌}
use lib.ListN.{get_or}
use lib.Ieee.{nan}
use Rattle.kapitsa_joint.specs.Tolerance.{dimension_of}
use Rattle.kapitsa_joint.proofs.Largest.{Largest}
use Rattle.check_measure.proofs.largest.largest_reaches.Given as goal

abbrev pub invariant-loop-i : goal.invariant-loop-i
invariant-loop-i l =
    Largest (λ k. dimension_of (get_or l.words (8 * k + 1) 0)) (λ k. get_or l.reaches k nan) l.rows l.i l.maxima
