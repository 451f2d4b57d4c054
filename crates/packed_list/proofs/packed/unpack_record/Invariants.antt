-- `packed_list::packed::unpack_record` meets its contract. Assumes nothing.
use Rattle.packed_list.proofs.Packing.{Reading}
use Rattle.packed_list.proofs.packed.unpack_record.Given as goal

abbrev pub invariant-loop-i : goal.invariant-loop-i
invariant-loop-i l = Reading l.list l.at l.size l.from l.initial.words l.i l.place l.words
