-- `listing::text::put_text` meets its contract. Assumes nothing.
use Rattle.listing.proofs.Joined.{wrote_part}
use Rattle.listing.proofs.text.put_text.Goals as goal

pub returns : goal.returns
returns c = wrote_part _ _ c.requires c.copy_from_slice.ensures.after
