-- `work_memory::fit::factor_fits` meets its contract. Assumes nothing.
use Rattle.loops.proofs.Loop.{loops}
use Rattle.work_memory.specs.Lengths.{factor_fits}
use Rattle.work_memory.proofs.fit.factor_fits.Goals as goal

ruleset known = (loops)

pub wide-requires : goal.wide-requires
unfolding factor_fits
wide-requires c =
    search known

pub pattern_room-requires : goal.pattern_room-requires
unfolding factor_fits
pattern_room-requires c =
    search known

pub order_room-requires : goal.order_room-requires
unfolding factor_fits
order_room-requires c =
    search known

pub values_room-requires : goal.values_room-requires
unfolding factor_fits
values_room-requires c =
    search known

pub returns : goal.returns
unfolding factor_fits
returns c =
    rw (c.wide.ensures, c.pattern_room.ensures, c.order_room.ensures, c.values_room.ensures)
