-- `preconditioner::apply::diagonal_solve` meets its contract: the rows below i have their quotient. Assumes nothing.
use lib.Ieee.{binary64, div, nan}
use lib.ListN.{get_or, length}
use Rattle.loops.proofs.Fill.{Fills}
use Rattle.preconditioner.proofs.apply.diagonal_solve.Given as goal

abbrev pub invariant-loop-i : goal.invariant-loop-i
invariant-loop-i l =
    Fills nan (λ k. div binary64 (get_or l.residual k nan) (get_or l.diagonal k nan)) (length l.initial.output) l.i l.output
