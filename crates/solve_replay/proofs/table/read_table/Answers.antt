-- `solve_replay::table::read_table` meets its contract. Assumes nothing.
use Prim.Native.Nat.{◌*◌}
use native.Mathlib.Omega.{arith}
use Rattle.solve_replay.specs.Seen.{beside_size}
use Rattle.solve_replay.proofs.Beside.{beside_lent_lem, beside_unpacked}
use Rattle.solve_replay.proofs.Filling.{filled_long, group_fits, group_near}
use Rattle.solve_replay.proofs.Showing.{unpacked, table_read}
use Rattle.solve_replay.proofs.table.read_table.Goals as goal

pub wide-n-requires : goal.wide-n-requires
wide-n-requires c =
    record {}

pub wide-b-requires : goal.wide-b-requires
wide-b-requires c =
    record {}

pub unpack-masses_at-requires : goal.unpack-masses_at-requires
unpack-masses_at-requires c =
    group_fits c.args.rows.now 35 c.args.header.rows _ _ c.requires.rows_value.0 c.wide-n.ensures (omega (arith, c.requires.at_bound.1)) (omega (arith, c.requires.at_bound.0))

pub unpack-beside_at-requires : goal.unpack-beside_at-requires
unpack-beside_at-requires c =
    group_fits c.args.mass_words.now 10 c.args.header.bodies _ _ c.requires.rows_value.1 c.wide-b.ensures (omega (arith, c.requires.at_bound.2)) (omega (arith, c.requires.at_bound.0, group_near c.args.rows.now 35 c.args.header.rows _ _ c.requires.rows_value.0 c.wide-n.ensures (omega (arith, c.requires.at_bound.1)) _ c.unpack-masses_at.ensures.upper_bound))

pub unpack_beside-end-requires : goal.unpack_beside-end-requires
unpack_beside-end-requires c =
    (omega (arith, c.requires.at_bound.0, group_near c.args.rows.now 35 c.args.header.rows _ _ c.requires.rows_value.0 c.wide-n.ensures (omega (arith, c.requires.at_bound.1)) _ c.unpack-masses_at.ensures.upper_bound, group_near c.args.mass_words.now 10 c.args.header.bodies _ _ c.requires.rows_value.1 c.wide-b.ensures (omega (arith, c.requires.at_bound.2)) _ c.unpack-beside_at.ensures.upper_bound), omega (arith, c.requires.at_bound.1, c.wide-n.ensures), omega (arith, c.requires.at_bound.2, c.wide-b.ensures), beside_lent_lem c.args.kind c.wide-n.ensures c.wide-b.ensures c.requires.rows_value.2)

pub read_numbers-requires : goal.read_numbers-requires
read_numbers-requires c =
    (omega (arith, c.rows-1.given, filled_long 0 (35 * c.args.header.rows) c.args.rows.now c.requires.rows_value.0, c.wide-n.ensures), omega (arith, c.requires.numbers_len.0, c.wide-n.ensures), omega (arith, c.requires.at_bound.1, c.wide-n.ensures))

pub read_words-requires : goal.read_words-requires
read_words-requires c =
    (omega (arith, c.rows-1.given, filled_long 0 (35 * c.args.header.rows) c.args.rows.now c.requires.rows_value.0, c.wide-n.ensures), omega (arith, c.requires.numbers_len.1, c.wide-n.ensures), omega (arith, c.requires.at_bound.1, c.wide-n.ensures))

pub read_doubles-requires : goal.read_doubles-requires
read_doubles-requires c =
    omega (arith, c.requires.numbers_len.2, c.mass_words-1.given, filled_long 0 (10 * c.args.header.bodies) c.args.mass_words.now c.requires.rows_value.1)

pub read_doubles-requires-2 : goal.read_doubles-requires-2
read_doubles-requires-2 c =
    omega (arith, c.requires.numbers_len.3, c.beside_words-1.given, filled_long 0 (beside_size c.args.kind c.args.header.rows c.args.header.bodies) c.args.beside_words.now c.requires.rows_value.2)

pub returns : goal.returns
returns c =
    table_read c.args.kind (unpacked _ _ _ c.requires.rows_value.0 c.wide-n.ensures c.unpack-masses_at.ensures.words_after) (unpacked _ _ _ c.requires.rows_value.1 c.wide-b.ensures c.unpack-beside_at.ensures.words_after) (beside_unpacked c.args.kind c.wide-n.ensures c.wide-b.ensures _ _ c.unpack_beside-end.ensures.words_after) c.read_numbers.ensures c.requires.numbers_len.0 c.read_words.ensures c.requires.numbers_len.1 c.read_doubles.ensures c.requires.numbers_len.2 c.read_doubles-2.ensures c.requires.numbers_len.3 (omega (arith, c.requires.at_bound.0, group_near c.args.rows.now 35 c.args.header.rows _ _ c.requires.rows_value.0 c.wide-n.ensures (omega (arith, c.requires.at_bound.1)) _ c.unpack-masses_at.ensures.upper_bound, group_near c.args.mass_words.now 10 c.args.header.bodies _ _ c.requires.rows_value.1 c.wide-b.ensures (omega (arith, c.requires.at_bound.2)) _ c.unpack-beside_at.ensures.upper_bound, c.unpack_beside-end.ensures.upper_bound))
