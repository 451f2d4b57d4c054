-- `packed_list::packed::unpack_record` meets its contract. Assumes nothing.
use Rattle.loops.proofs.Loop.{loops}
use Rattle.packed_list.proofs.Packing.{reading_none, reading_more, reading_end, reading_near}
use Rattle.packed_list.proofs.packed.unpack_record.Goals as goal

ruleset known = (reading_none, reading_more, reading_end, reading_near, loops)

pub overflow_add-place : goal.overflow_add-place
overflow_add-place c = search known

pub overflow_add-place-2 : goal.overflow_add-place-2
overflow_add-place-2 c = search known

pub loop-i-init : goal.loop-i-init
loop-i-init c = search known

pub code-c-requires : goal.code-c-requires
code-c-requires c = search known

pub overflow_add-from : goal.overflow_add-from
overflow_add-from c = search known

pub before-requires : goal.before-requires
before-requires c = search known

pub coded-w-requires : goal.coded-w-requires
coded-w-requires c = search known

pub overflow_add-words : goal.overflow_add-words
overflow_add-words c = search known

pub offset_bounds-words-from : goal.offset_bounds-words-from
offset_bounds-words-from c = search known

pub bounds-words-from : goal.bounds-words-from
bounds-words-from c = search known

pub size_of-place-requires : goal.size_of-place-requires
size_of-place-requires c = search known

pub overflow_add-place-in-loop-i : goal.overflow_add-place-in-loop-i
overflow_add-place-in-loop-i c = search known

pub loop-i-preserved : goal.loop-i-preserved
loop-i-preserved c = search known

pub returns : goal.returns
returns c = search known
