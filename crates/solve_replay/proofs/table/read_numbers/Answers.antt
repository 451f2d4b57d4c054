-- `solve_replay::table::read_numbers` meets its contract. Assumes nothing.
use Prim.Native.Nat.{◌-◌}
use Rattle.loops.proofs.Fill.{fills, fills_put}
use Rattle.loops.proofs.Tabulate.{filled_tabulate}
use Rattle.solve_replay.specs.Job.{row_numbers}
use Rattle.solve_replay.proofs.table.read_numbers.Goals as goal

ruleset known = (filled_tabulate, fills)

pub loop-i-init : goal.loop-i-init
unfolding row_numbers
loop-i-init c =
    search known

pub overflow_mul-i : goal.overflow_mul-i
unfolding row_numbers
overflow_mul-i c =
    search known

pub overflow_add-i : goal.overflow_add-i
unfolding row_numbers
overflow_add-i c =
    search known

pub offset_bounds-words-i : goal.offset_bounds-words-i
unfolding row_numbers
offset_bounds-words-i c =
    search known

pub bounds-words-i : goal.bounds-words-i
unfolding row_numbers
bounds-words-i c =
    search known

pub from_bits-x-requires : goal.from_bits-x-requires
unfolding row_numbers
from_bits-x-requires c =
    search known

pub offset_bounds-out-i : goal.offset_bounds-out-i
unfolding row_numbers
offset_bounds-out-i c =
    search known

pub bounds-out-i : goal.bounds-out-i
unfolding row_numbers
bounds-out-i c =
    search known

pub overflow_add-i-in-loop-i : goal.overflow_add-i-in-loop-i
unfolding row_numbers
overflow_add-i-in-loop-i c =
    search known

pub loop-i-smaller : goal.loop-i-smaller
unfolding row_numbers
loop-i-smaller c =
    search known

pub loop-i-preserved : goal.loop-i-preserved
unfolding row_numbers
loop-i-preserved c =
    search (fills_put, c.from_bits-x.ensures.value, fills)

pub returns : goal.returns
unfolding row_numbers
returns c =
    search known
