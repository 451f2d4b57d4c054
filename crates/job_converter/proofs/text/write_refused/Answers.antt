-- `job_converter::text::write_refused` meets its contract. Assumes nothing.
use Rattle.listing.proofs.Joined.{room_first, room_rest, wrote_join, room_as, wrote_as}
use Rattle.job_converter.specs.Program.{refused_line}
use Rattle.job_converter.proofs.Printing.{convert_name_lem}
use Rattle.job_converter.proofs.text.write_refused.Goals as goal

pub put_text-name-requires : goal.put_text-name-requires
unfolding refused_line
put_text-name-requires c = room_as convert_name_lem (room_first _ (room_first _ c.requires))

pub put_number-number-requires : goal.put_number-number-requires
unfolding refused_line
put_number-number-requires c = rw c.number.ensures (room_rest (room_first _ c.requires) (wrote_as convert_name_lem c.put_text-name.ensures))

pub put_byte-requires : goal.put_byte-requires
unfolding refused_line
put_byte-requires c =
    let line = wrote_join (wrote_as convert_name_lem c.put_text-name.ensures) (rw c.number.ensures at c.put_number-number.ensures) in
    room_rest c.requires line

pub returns : goal.returns
unfolding refused_line
returns c =
    let line = wrote_join (wrote_as convert_name_lem c.put_text-name.ensures) (rw c.number.ensures at c.put_number-number.ensures) in
    wrote_join line c.put_byte.ensures
