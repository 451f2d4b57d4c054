-- `solve_replay::compare::kept_number` meets its contract. Assumes nothing.
use mathlib.Core.Path.{◌∙◌}
use Rattle.solve_replay.specs.Compare.{kept_number}
use Rattle.solve_replay.proofs.compare.kept_number.Goals as goal

pub returns-then-accepted-i : goal.returns-then-accepted-i
unfolding kept_number
returns-then-accepted-i c =
    rw c.if-accepted-i.true

pub returns : goal.returns
unfolding kept_number
returns c =
    c.same_number.ensures ∙ rw c.if-accepted-i.false
