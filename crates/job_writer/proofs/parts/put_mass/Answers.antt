-- `job_writer::parts::put_mass` meets its contract. Assumes nothing.
use native.Mathlib.Omega.{arith}
use Rattle.listing.proofs.Joined.{room_first, room_rest, wrote_join}
use Rattle.job_writer.specs.Written.{written_mass}
use Rattle.job_writer.proofs.parts.put_mass.Goals as goal

pub put_doubles-next-requires : goal.put_doubles-next-requires
unfolding written_mass
put_doubles-next-requires c =
    (omega arith, room_first _ c.requires.3)

pub put_doubles-requires : goal.put_doubles-requires
unfolding written_mass
put_doubles-requires c =
    (omega arith, room_rest c.requires.3 c.put_doubles-next.ensures)

pub returns : goal.returns
unfolding written_mass
returns c =
    wrote_join c.put_doubles-next.ensures c.put_doubles.ensures
