-- `check_work::rows::measure_rows` meets its contract. Assumes nothing.
use native.Mathlib.Omega.{arith}
use Rattle.check_work.proofs.Bodies.{valid_same}
use Rattle.check_work.proofs.Product.{measured}
use Rattle.check_work.proofs.rows.measure_rows.Goals as goal

pub fill_values-requires : goal.fill_values-requires
fill_values-requires c = record {
  values_in_bounds = (omega arith, omega arith, omega arith);
  responses_len = (c.respond.ensures.paired.long, c.respond.ensures.paired_2.long);
  valid = valid_same c.requires.impulses_len.2 c.requires.valid;
}

pub returns : goal.returns
returns c = record {
  measured =
      measured c.args.masses.now c.args.multipliers.now c.requires.valid
      c.sum_impulses.ensures.summing c.respond.ensures.paired c.sum_impulses.ensures.summing_2 c.respond.ensures.paired_2
      c.requires.impulses_len.2 c.fill_values.ensures.values_after c.fill_values.ensures.sizes_after;
  free = (record { long = omega arith }, record { long = omega arith });
}
