-- `job_converter::convert::fill_converted` meets its contract. Assumes nothing.
use Rattle.std.proofs.Common.{arith, length-take-le}
use Rattle.job_converter.proofs.convert.fill_converted.Goals as goal

pub fill_lent-requires : goal.fill_lent-requires
fill_lent-requires c =
    let rows = c.requires.opened.few_rows in
    let bodies = c.requires.opened.few_bodies in
    record {
      opened = c.requires.opened;
      bits_room = record {
        numbers_long = length-take-le _ _ (omega arith);
        words_long = length-take-le _ _ (omega arith);
        masses_long = length-take-le _ _ (omega arith);
        centres_long = length-take-le _ _ (omega arith);
      };
      layout_bound = c.requires.layout_bound;
    }
