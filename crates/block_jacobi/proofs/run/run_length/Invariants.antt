-- `block_jacobi::run::run_length` meets its contract: the k rows from `start` on have its owner. Assumes nothing.
use Rattle.block_jacobi.proofs.Leading.{Owned}
use Rattle.block_jacobi.proofs.run.run_length.Given as goal

abbrev pub invariant-loop-k : goal.invariant-loop-k
invariant-loop-k l =
    Owned l.owners l.start l.left l.k
