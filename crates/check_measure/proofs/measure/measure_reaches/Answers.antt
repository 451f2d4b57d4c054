-- `check_measure::measure::measure_reaches` meets its contract: the values below i are reaches, the others as they were. Assumes nothing.
use Rattle.check_measure.proofs.InPlace.{replaced_none, reaches_more, reaches_made}
use mathlib.Core.Path.{refl}
use Rattle.loops.proofs.Loop.{loops}
use Rattle.check_measure.proofs.measure.measure_reaches.Goals as goal

ruleset known = (replaced_none, reaches_more, reaches_made, loops)

pub loop-i-init : goal.loop-i-init
loop-i-init c = search known

pub loop-i-preserved : goal.loop-i-preserved
loop-i-preserved c = reaches_more _ _ c.loop-i.invariant c.requires.3 (search known) c.error_at.ensures c.reach.ensures refl

pub returns : goal.returns
returns c = search known
