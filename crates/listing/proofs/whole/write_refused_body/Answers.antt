-- `listing::whole::write_refused_body` meets its contract. Assumes nothing.
use Rattle.listing.proofs.Joined.{room_first, room_rest, wrote_join}
use Rattle.listing.proofs.whole.write_refused_body.Goals as goal

pub write_refusal-next-requires : goal.write_refusal-next-requires
write_refusal-next-requires c =
    room_first _ c.requires

pub refused_body_line-requires : goal.refused_body_line-requires
refused_body_line-requires c =
    room_rest c.requires c.write_refusal-next.ensures

pub returns : goal.returns
returns c =
    wrote_join c.write_refusal-next.ensures c.refused_body_line.ensures
