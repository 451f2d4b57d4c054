-- `job_writer::parts::put_trailer` meets its contract. Assumes nothing.
use Rattle.listing.proofs.Joined.{room_first, room_rest, wrote_join, room_as, wrote_as}
use Rattle.job_writer.specs.Written.{written_trailer}
use Rattle.job_writer.proofs.Sizes.{end_as}
use Rattle.job_writer.proofs.parts.put_trailer.Goals as goal

pub put_counts-a-requires : goal.put_counts-a-requires
unfolding written_trailer
put_counts-a-requires c =
    room_first _ (room_first _ (room_first _ c.requires.3))

pub put_u32-b-requires : goal.put_u32-b-requires
unfolding written_trailer
put_u32-b-requires c =
    room_rest (room_first _ (room_first _ c.requires.3)) c.put_counts-a.ensures

pub put_u32-c-requires : goal.put_u32-c-requires
unfolding written_trailer
put_u32-c-requires c =
    room_rest (room_first _ c.requires.3) (wrote_join c.put_counts-a.ensures c.put_u32-b.ensures)

pub put_end-requires : goal.put_end-requires
unfolding written_trailer
put_end-requires c =
    room_as (end_as _ c.file_length-bytes.ensures) (room_rest c.requires.3 (wrote_join (wrote_join c.put_counts-a.ensures c.put_u32-b.ensures) c.put_u32-c.ensures))

pub returns : goal.returns
unfolding written_trailer
returns c =
    wrote_join (wrote_join (wrote_join c.put_counts-a.ensures c.put_u32-b.ensures) c.put_u32-c.ensures) (wrote_as (end_as _ c.file_length-bytes.ensures) c.put_end.ensures)
