-- `solve_replay::table::read_doubles` meets its contract. Assumes nothing.
use Prim.Native.Nat.{◌-◌}
use Rattle.loops.proofs.Fill.{fills, fills_put}
use Rattle.loops.proofs.Tabulate.{filled_tabulate}
use Rattle.solve_replay.specs.Job.{doubles_of}
use Rattle.solve_replay.proofs.table.read_doubles.Goals as goal

ruleset known = (filled_tabulate, fills)

pub loop-i-init : goal.loop-i-init
unfolding doubles_of
loop-i-init c =
    search known

pub offset_bounds-words-i : goal.offset_bounds-words-i
unfolding doubles_of
offset_bounds-words-i c =
    search known

pub bounds-words-i : goal.bounds-words-i
unfolding doubles_of
bounds-words-i c =
    search known

pub from_bits-x-requires : goal.from_bits-x-requires
unfolding doubles_of
from_bits-x-requires c =
    search known

pub offset_bounds-out-i : goal.offset_bounds-out-i
unfolding doubles_of
offset_bounds-out-i c =
    search known

pub bounds-out-i : goal.bounds-out-i
unfolding doubles_of
bounds-out-i c =
    search known

pub overflow_add-i : goal.overflow_add-i
unfolding doubles_of
overflow_add-i c =
    search known

pub loop-i-smaller : goal.loop-i-smaller
unfolding doubles_of
loop-i-smaller c =
    search known

pub loop-i-preserved : goal.loop-i-preserved
unfolding doubles_of
loop-i-preserved c =
    search (fills_put, c.from_bits-x.ensures.value, fills)

pub returns : goal.returns
unfolding doubles_of
returns c =
    search known
