-- `solve_replay::compare::same_answer` meets its contract. Assumes nothing.
use Rattle.solve_replay.specs.Compare.{same_answer}
use Rattle.solve_replay.proofs.compare.same_answer.Goals as goal

pub returns : goal.returns
unfolding same_answer
returns c =
    rw (c.same_double.ensures, c.same_double-2.ensures)
