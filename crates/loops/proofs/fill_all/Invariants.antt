-- `loops::fill_all` meets its contract: the elements below x-index are the value. Assumes nothing.
use lib.ListN.{length}
use Rattle.loops.proofs.Fill.{Fills}
use Rattle.loops.proofs.fill_all.Given as goal

abbrev pub invariant-loop-x : goal.invariant-loop-x
invariant-loop-x g l = Fills l.value (λ k. l.value) (length l.initial.out) l.x-index l.out
