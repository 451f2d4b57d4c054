-- `listing::lines::body_line` meets its contract. Assumes nothing.
use native.Mathlib.Omega.{arith}
use Rattle.listing.specs.Lines.{body_line}
use Rattle.listing.proofs.Joined.{room_first, room_rest, wrote_join, room_as, wrote_as}
use Rattle.listing.proofs.Names.{body_name_lem, centre_most, doubles_as}
use Rattle.listing.proofs.lines.body_line.Goals as goal

pub put_text-name-requires : goal.put_text-name-requires
unfolding body_line
put_text-name-requires c =
    room_as body_name_lem (room_first _ (room_first _ (room_first _ (room_first _ c.requires.2))))

pub put_number-number-requires : goal.put_number-number-requires
unfolding body_line
put_number-number-requires c =
    room_rest (room_first _ (room_first _ (room_first _ c.requires.2))) (wrote_as body_name_lem c.put_text-name.ensures)

pub put_doubles-six-requires : goal.put_doubles-six-requires
unfolding body_line
put_doubles-six-requires c =
    (omega arith, room_rest (room_first _ (room_first _ c.requires.2)) (wrote_join (wrote_as body_name_lem c.put_text-name.ensures) c.put_number-number.ensures))

pub put_doubles-centre-requires : goal.put_doubles-centre-requires
unfolding body_line
put_doubles-centre-requires c =
    (let e = c.centre_count-count.ensures in let m = centre_most c.args.spare in omega arith, room_as (doubles_as _ _ c.centre_count-count.ensures) (room_rest (room_first _ c.requires.2) (wrote_join (wrote_join (wrote_as body_name_lem c.put_text-name.ensures) c.put_number-number.ensures) c.put_doubles-six.ensures)))

pub put_byte-requires : goal.put_byte-requires
unfolding body_line
put_byte-requires c =
    room_rest c.requires.2 (wrote_join (wrote_join (wrote_join (wrote_as body_name_lem c.put_text-name.ensures) c.put_number-number.ensures) c.put_doubles-six.ensures) (wrote_as (doubles_as _ _ c.centre_count-count.ensures) c.put_doubles-centre.ensures))

pub returns : goal.returns
unfolding body_line
returns c =
    wrote_join (wrote_join (wrote_join (wrote_join (wrote_as body_name_lem c.put_text-name.ensures) c.put_number-number.ensures) c.put_doubles-six.ensures) (wrote_as (doubles_as _ _ c.centre_count-count.ensures) c.put_doubles-centre.ensures)) c.put_byte.ensures
