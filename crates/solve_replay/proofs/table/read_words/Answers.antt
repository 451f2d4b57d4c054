-- `solve_replay::table::read_words` meets its contract. Assumes nothing.
use Prim.Native.Nat.{◌-◌}
use Rattle.loops.proofs.Fill.{fills}
use Rattle.loops.proofs.Tabulate.{filled_tabulate}
use Rattle.solve_replay.specs.Job.{row_words}
use Rattle.solve_replay.proofs.table.read_words.Goals as goal

ruleset known = (filled_tabulate, fills)

pub loop-i-init : goal.loop-i-init
unfolding row_words
loop-i-init c =
    search known

pub overflow_mul-x : goal.overflow_mul-x
unfolding row_words
overflow_mul-x c =
    search known

pub overflow_add-x : goal.overflow_add-x
unfolding row_words
overflow_add-x c =
    search known

pub overflow_add-x-in-loop-i : goal.overflow_add-x-in-loop-i
unfolding row_words
overflow_add-x-in-loop-i c =
    search known

pub offset_bounds-words-i : goal.offset_bounds-words-i
unfolding row_words
offset_bounds-words-i c =
    search known

pub bounds-words-i : goal.bounds-words-i
unfolding row_words
bounds-words-i c =
    search known

pub overflow_cast-x : goal.overflow_cast-x
unfolding row_words
overflow_cast-x c =
    search known

pub offset_bounds-out-i : goal.offset_bounds-out-i
unfolding row_words
offset_bounds-out-i c =
    search known

pub bounds-out-i : goal.bounds-out-i
unfolding row_words
bounds-out-i c =
    search known

pub overflow_add-i : goal.overflow_add-i
unfolding row_words
overflow_add-i c =
    search known

pub loop-i-smaller : goal.loop-i-smaller
unfolding row_words
loop-i-smaller c =
    search known

pub loop-i-preserved : goal.loop-i-preserved
unfolding row_words
loop-i-preserved c =
    search known

pub returns : goal.returns
unfolding row_words
returns c =
    search known
