-- `loops::copy` meets its contract: the first i numbers are those of `from`. Assumes nothing.
use lib.Ieee.{nan}
use lib.ListN.{length, get_or}
use Rattle.loops.proofs.Fill.{Fills}
use Rattle.loops.proofs.copy.Given as goal

abbrev pub invariant-loop-i : goal.invariant-loop-i
invariant-loop-i l = Fills nan (λ k. get_or l.from k nan) (length l.from) l.i l.out
