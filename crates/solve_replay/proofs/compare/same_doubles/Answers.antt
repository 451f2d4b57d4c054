-- `solve_replay::compare::same_doubles` meets its contract. Assumes nothing.
use Prim.Native.Nat.{◌-◌}
use Rattle.loops.proofs.Every.{called}
use Rattle.solve_replay.specs.Compare.{same_doubles}
use Rattle.solve_replay.proofs.compare.same_doubles.Goals as goal

pub loop-i-init : goal.loop-i-init
unfolding same_doubles
loop-i-init c =
    search called

pub offset_bounds-numbers-i : goal.offset_bounds-numbers-i
unfolding same_doubles
offset_bounds-numbers-i c =
    search called

pub bounds-numbers-i : goal.bounds-numbers-i
unfolding same_doubles
bounds-numbers-i c =
    search called

pub offset_bounds-words-i : goal.offset_bounds-words-i
unfolding same_doubles
offset_bounds-words-i c =
    search called

pub bounds-words-i : goal.bounds-words-i
unfolding same_doubles
bounds-words-i c =
    search called

pub same_double-requires : goal.same_double-requires
unfolding same_doubles
same_double-requires c =
    search called

pub returns-then-not-same_double : goal.returns-then-not-same_double
unfolding same_doubles
returns-then-not-same_double c =
    search called

pub overflow_add-i : goal.overflow_add-i
unfolding same_doubles
overflow_add-i c =
    search called

pub loop-i-smaller : goal.loop-i-smaller
unfolding same_doubles
loop-i-smaller c =
    search called

pub loop-i-preserved : goal.loop-i-preserved
unfolding same_doubles
loop-i-preserved c =
    search called

pub returns : goal.returns
unfolding same_doubles
returns c =
    search called
