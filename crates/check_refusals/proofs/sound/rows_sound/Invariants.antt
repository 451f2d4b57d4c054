-- `check_refusals::sound::rows_sound` meets its contract: so far it tells whether the rows below i are sound. Assumes nothing.
use lib.Ieee.{nan}
use lib.ListN.{get_or}
use Rattle.kapitsa_joint.specs.Row.{row_of}
use Rattle.mass_operator.proofs.AllFinite.{SoFar}
use Rattle.check_range.specs.Closing.{error_in}
use Rattle.check_refusals.specs.Sound.{row_sound}
use Rattle.check_refusals.proofs.sound.rows_sound.Given as goal

abbrev pub invariant-loop-i : goal.invariant-loop-i
invariant-loop-i l =
    SoFar (λ k. row_sound l.bodies (row_of l.numbers l.words k) (error_in l.kind l.numbers l.given k) (get_or l.multipliers k nan)) l.rows l.i l.all
