-- `solve_replay::compare::kept_numbers` meets its contract. Assumes nothing.
use Prim.Native.Nat.{◌-◌}
use Rattle.loops.proofs.Every.{called}
use Rattle.solve_replay.specs.Compare.{kept_numbers}
use Rattle.solve_replay.proofs.compare.kept_numbers.Goals as goal

pub loop-i-init : goal.loop-i-init
unfolding kept_numbers
loop-i-init c =
    search called

pub kept_number-requires : goal.kept_number-requires
unfolding kept_numbers
kept_number-requires c =
    search called

pub returns-then-not-kept_number : goal.returns-then-not-kept_number
unfolding kept_numbers
returns-then-not-kept_number c =
    search called

pub overflow_add-i : goal.overflow_add-i
unfolding kept_numbers
overflow_add-i c =
    search called

pub loop-i-smaller : goal.loop-i-smaller
unfolding kept_numbers
loop-i-smaller c =
    search called

pub loop-i-preserved : goal.loop-i-preserved
unfolding kept_numbers
loop-i-preserved c =
    search called

pub returns : goal.returns
unfolding kept_numbers
returns c =
    search called
