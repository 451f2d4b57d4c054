-- `job_writer::whole::fill_job` meets its contract. Assumes nothing.
use native.Mathlib.Omega.{arith}
use Rattle.listing.proofs.Joined.{room_first, room_rest, wrote_join}
use Rattle.job_writer.specs.Written.{written}
use Rattle.job_writer.proofs.whole.fill_job.Goals as goal

pub put_rows-rows-requires : goal.put_rows-rows-requires
unfolding written
put_rows-rows-requires c =
    (omega arith, omega arith, room_first _ (room_first _ c.requires.1))

pub put_masses-masses_end-requires : goal.put_masses-masses_end-requires
unfolding written
put_masses-masses_end-requires c =
    (omega arith, omega arith, omega arith, room_rest (room_first _ c.requires.1) c.put_rows-rows.ensures)

pub put_trailer-requires : goal.put_trailer-requires
unfolding written
put_trailer-requires c =
    (omega arith, omega arith, omega arith, room_rest c.requires.1 (wrote_join c.put_rows-rows.ensures c.put_masses-masses_end.ensures))

pub returns : goal.returns
unfolding written
returns c =
    wrote_join (wrote_join c.put_rows-rows.ensures c.put_masses-masses_end.ensures) c.put_trailer.ensures
