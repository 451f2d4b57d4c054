-- `listing::lines::refused_limit_line` meets its contract. Assumes nothing.
use Rattle.listing.proofs.Joined.{room_as, wrote_as}
use Rattle.listing.proofs.Names.{refused_limit_text}
use Rattle.listing.proofs.lines.refused_limit_line.Goals as goal

pub put_text-requires : goal.put_text-requires
put_text-requires c =
    room_as refused_limit_text c.requires

pub returns : goal.returns
returns c =
    wrote_as refused_limit_text c.put_text.ensures
