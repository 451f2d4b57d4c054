-- `preconditioner::owner::gather_owners` meets its contract: the rows below i have their owner. Assumes nothing.
use Prim.Native.Nat.{◌*◌, ◌+◌}
use lib.ListN.{get_or, length}
use Rattle.loops.proofs.Fill.{Fills}
use Rattle.preconditioner.proofs.owner.gather_owners.Given as goal

abbrev pub invariant-loop-i : goal.invariant-loop-i
invariant-loop-i l =
    Fills 0 (λ k. get_or l.words (8 * k + 6) 0) (length l.initial.owners) l.i l.owners
