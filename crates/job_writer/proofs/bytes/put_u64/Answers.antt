-- `job_writer::bytes::put_u64` meets its contract. Assumes nothing.
use Rattle.std.proofs.Common.{◌∙◌}
use Rattle.listing.proofs.Joined.{room_as, wrote_as}
use Rattle.job_writer.proofs.Little.{little_8}
use Rattle.job_writer.proofs.bytes.put_u64.Goals as goal

pub put_text-requires : goal.put_text-requires
put_text-requires c = room_as (c.to_le_bytes.ensures ∙ little_8 _) c.requires

pub returns : goal.returns
returns c = wrote_as (c.to_le_bytes.ensures ∙ little_8 _) c.put_text.ensures
