-- `packed_list::packed::unpack` meets its contract. Assumes nothing.
use Rattle.loops.proofs.Loop.{loops}
use Rattle.packed_list.proofs.Packing.{grouping_none, grouping_more, grouping_room, grouping_end, grouping_near, grouping_place, grouping_short, grouping_next}
use Rattle.packed_list.proofs.packed.unpack.Goals as goal

ruleset known = (grouping_none, grouping_more, grouping_room, grouping_end, grouping_near, grouping_place, grouping_short, grouping_next, loops)

pub loop-i-init : goal.loop-i-init
loop-i-init c = search known

pub unpack_record-place-requires : goal.unpack_record-place-requires
unpack_record-place-requires c = search known

pub overflow_add-from : goal.overflow_add-from
overflow_add-from c = search known

pub loop-i-preserved : goal.loop-i-preserved
loop-i-preserved c = search known

pub returns : goal.returns
returns c = search known
