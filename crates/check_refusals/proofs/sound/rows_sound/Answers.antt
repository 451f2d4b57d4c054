-- `check_refusals::sound::rows_sound` meets its contract: so far it tells whether the rows below i are sound. Assumes nothing.
use Rattle.mass_operator.proofs.AllFinite.{sofar}
use Rattle.check_refusals.proofs.sound.rows_sound.Goals as goal

pub loop-i-init : goal.loop-i-init
loop-i-init c = search sofar

pub loop-i-preserved : goal.loop-i-preserved
loop-i-preserved c = search sofar

pub returns : goal.returns
returns c = search sofar
