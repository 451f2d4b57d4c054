-- `check_work::value::fill_values` meets its contract: the rows below i have their values. Assumes nothing.
use mathlib.Core.Path.{refl}
use Rattle.loops.proofs.Fill.{fills, fills_none}
use Rattle.loops.proofs.Tabulate.{filled_tabulate}
use Rattle.check_work.proofs.Bodies.{room}
use Rattle.check_work.proofs.value.fill_values.Goals as goal

ruleset known = (room, filled_tabulate, fills)

pub loop-i-init : goal.loop-i-init
loop-i-init c =
    (fills_none _ refl, fills_none _ c.requires.values_in_bounds.2)

pub value_at-row-requires : goal.value_at-row-requires
value_at-row-requires c = search known

pub loop-i-preserved : goal.loop-i-preserved
loop-i-preserved c = search known

pub returns : goal.returns
returns c = search known
