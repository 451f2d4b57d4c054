-- `job_stream::front::job_line` meets its contract. Assumes nothing.
use Rattle.listing.proofs.Joined.{room_first, room_rest, wrote_join, room_as, wrote_as}
use Rattle.job_stream.specs.Stream.{job_line}
use Rattle.job_stream.proofs.Line.{job_name_lem}
use Rattle.job_stream.proofs.front.job_line.Goals as goal

pub put_text-a-requires : goal.put_text-a-requires
unfolding job_line
put_text-a-requires c =
    room_as job_name_lem (room_first _ (room_first _ c.requires))

pub put_number-b-requires : goal.put_number-b-requires
unfolding job_line
put_number-b-requires c =
    room_rest (room_first _ c.requires) (wrote_as job_name_lem c.put_text-a.ensures)

pub put_byte-requires : goal.put_byte-requires
unfolding job_line
put_byte-requires c =
    room_rest c.requires (wrote_join (wrote_as job_name_lem c.put_text-a.ensures) c.put_number-b.ensures)

pub returns : goal.returns
unfolding job_line
returns c =
    wrote_join (wrote_join (wrote_as job_name_lem c.put_text-a.ensures) c.put_number-b.ensures) c.put_byte.ensures
