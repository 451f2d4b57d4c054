-- `listing::lines::put_maxima` meets its contract. Assumes nothing.
use Rattle.listing.specs.Lines.{maxima_words}
use Rattle.listing.proofs.Joined.{room_first, room_rest, wrote_join}
use Rattle.listing.proofs.lines.put_maxima.Goals as goal

pub put_double-a-requires : goal.put_double-a-requires
unfolding maxima_words
put_double-a-requires c =
    room_first _ c.requires

pub put_double-requires : goal.put_double-requires
unfolding maxima_words
put_double-requires c =
    room_rest c.requires c.put_double-a.ensures

pub returns : goal.returns
unfolding maxima_words
returns c =
    wrote_join c.put_double-a.ensures c.put_double.ensures
