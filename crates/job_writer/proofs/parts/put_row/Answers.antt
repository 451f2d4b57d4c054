-- `job_writer::parts::put_row` meets its contract. Assumes nothing.
use native.Mathlib.Omega.{arith}
use Rattle.listing.proofs.Joined.{room_first, room_rest, wrote_join}
use Rattle.job_writer.specs.Written.{written_row}
use Rattle.job_writer.proofs.parts.put_row.Goals as goal

pub put_doubles-next-requires : goal.put_doubles-next-requires
unfolding written_row
put_doubles-next-requires c =
    (omega arith, room_first _ c.requires.2)

pub put_halves-requires : goal.put_halves-requires
unfolding written_row
put_halves-requires c =
    (omega arith, room_rest c.requires.2 c.put_doubles-next.ensures)

pub returns : goal.returns
unfolding written_row
returns c =
    wrote_join c.put_doubles-next.ensures c.put_halves.ensures
