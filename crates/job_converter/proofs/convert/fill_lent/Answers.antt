-- `job_converter::convert::fill_lent` meets its contract. Assumes nothing.
use mathlib.Core.Path.{ap}
use Rattle.listing.proofs.Joined.{wrote_as}
use Rattle.job_writer.specs.Written.{written}
use Rattle.job_converter.proofs.Reading.{lent_read, room_read, job_read}
use Rattle.job_converter.proofs.convert.fill_lent.Goals as goal

pub read_bits-requires : goal.read_bits-requires
read_bits-requires c =
    (c.requires.opened, c.requires.bits_room)

pub read_head-head-requires : goal.read_head-head-requires
read_head-head-requires c =
    c.requires.opened

pub fill_job-requires : goal.fill_job-requires
fill_job-requires c =
    (lent_read c.requires.opened c.read_head-head.ensures _ _ _ _ c.requires.layout_bound.0 c.requires.bits_room c.read_bits.auto.numbers c.read_bits.auto.words c.read_bits.auto.masses c.read_bits.auto.centres, room_read c.requires.opened c.read_head-head.ensures _ _ _ _ _ c.requires.layout_bound.1)

pub returns : goal.returns
returns c =
    wrote_as (ap written (job_read c.requires.opened c.read_head-head.ensures c.read_bits.ensures.0 c.read_bits.ensures.1 c.read_bits.ensures.2 c.read_bits.ensures.3)) c.fill_job.ensures
