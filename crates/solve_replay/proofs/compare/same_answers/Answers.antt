-- `solve_replay::compare::same_answers` meets its contract. Assumes nothing.
use Prim.Native.Nat.{◌-◌}
use Rattle.loops.proofs.Every.{called}
use Rattle.solve_replay.specs.Compare.{same_answers}
use Rattle.solve_replay.proofs.compare.same_answers.Goals as goal

pub loop-i-init : goal.loop-i-init
unfolding same_answers
loop-i-init c =
    search called

pub same_answer-requires : goal.same_answer-requires
unfolding same_answers
same_answer-requires c =
    search called

pub returns-then-not-same_answer : goal.returns-then-not-same_answer
unfolding same_answers
returns-then-not-same_answer c =
    search called

pub overflow_add-i : goal.overflow_add-i
unfolding same_answers
overflow_add-i c =
    search called

pub loop-i-smaller : goal.loop-i-smaller
unfolding same_answers
loop-i-smaller c =
    search called

pub loop-i-preserved : goal.loop-i-preserved
unfolding same_answers
loop-i-preserved c =
    search called

pub returns : goal.returns
unfolding same_answers
returns c =
    search called
