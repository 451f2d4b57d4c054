-- `job_writer::parts::put_end` meets its contract. Assumes nothing.
use Rattle.listing.proofs.Joined.{room_first, room_rest, wrote_join}
use Rattle.job_writer.specs.Written.{written_end}
use Rattle.job_writer.proofs.parts.put_end.Goals as goal

pub put_u64-a-requires : goal.put_u64-a-requires
unfolding written_end
put_u64-a-requires c =
    room_first _ (room_first _ (room_first _ c.requires))

pub put_u64-b-requires : goal.put_u64-b-requires
unfolding written_end
put_u64-b-requires c =
    room_rest (room_first _ (room_first _ c.requires)) c.put_u64-a.ensures

pub put_u32-c-requires : goal.put_u32-c-requires
unfolding written_end
put_u32-c-requires c =
    room_rest (room_first _ c.requires) (wrote_join c.put_u64-a.ensures c.put_u64-b.ensures)

pub put_u32-requires : goal.put_u32-requires
unfolding written_end
put_u32-requires c =
    room_rest c.requires (wrote_join (wrote_join c.put_u64-a.ensures c.put_u64-b.ensures) c.put_u32-c.ensures)

pub returns : goal.returns
unfolding written_end
returns c =
    wrote_join (wrote_join (wrote_join c.put_u64-a.ensures c.put_u64-b.ensures) c.put_u32-c.ensures) c.put_u32.ensures
