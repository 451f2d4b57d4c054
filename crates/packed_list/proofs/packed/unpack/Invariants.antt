-- `packed_list::packed::unpack` meets its contract. Assumes nothing.
use Rattle.packed_list.proofs.Packing.{Grouping}
use Rattle.packed_list.proofs.packed.unpack.Given as goal

abbrev pub invariant-loop-i : goal.invariant-loop-i
invariant-loop-i l = Grouping l.list l.at l.size l.initial.words l.count l.i l.from l.place l.words
