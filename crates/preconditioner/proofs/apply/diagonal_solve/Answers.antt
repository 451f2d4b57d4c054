-- `preconditioner::apply::diagonal_solve` meets its contract: the rows below i have their quotient. Assumes nothing.
use Rattle.loops.proofs.Fill.{fills}
use Rattle.preconditioner.proofs.Applies.{diagonal_solved}
use Rattle.preconditioner.proofs.apply.diagonal_solve.Goals as goal

ruleset known = (diagonal_solved, fills)

pub returns : goal.returns
returns c =
    search known
