-- `solve_replay::compare::unwritten` meets its contract. Assumes nothing.
use Prim.Native.Nat.{◌-◌}
use Rattle.loops.proofs.Every.{called}
use Rattle.solve_replay.specs.Compare.{unwritten_of}
use Rattle.solve_replay.proofs.compare.unwritten.Goals as goal

pub loop-i-init : goal.loop-i-init
unfolding unwritten_of
loop-i-init c =
    search called

pub offset_bounds-numbers-i : goal.offset_bounds-numbers-i
unfolding unwritten_of
offset_bounds-numbers-i c =
    search called

pub bounds-numbers-i : goal.bounds-numbers-i
unfolding unwritten_of
bounds-numbers-i c =
    search called

pub same_double-requires : goal.same_double-requires
unfolding unwritten_of
same_double-requires c =
    search called

pub returns-then-not-same_double : goal.returns-then-not-same_double
unfolding unwritten_of
returns-then-not-same_double c =
    search called

pub overflow_add-i : goal.overflow_add-i
unfolding unwritten_of
overflow_add-i c =
    search called

pub loop-i-smaller : goal.loop-i-smaller
unfolding unwritten_of
loop-i-smaller c =
    search called

pub loop-i-preserved : goal.loop-i-preserved
unfolding unwritten_of
loop-i-preserved c =
    search called

pub returns : goal.returns
unfolding unwritten_of
returns c =
    search called
