-- `check_measure::measure::radius_factor` meets its contract. Assumes nothing.
use Prim.Native.Nat.{◌+◌, ◌^◌}
use native.Mathlib.Omega.{arith}
use lib.Dec.{le→leb}
use lib.Ieee.{in_float}
use borrow.Author.Rules.{rules}
use Rattle.check_measure.specs.Verdict.{radius_factor}
use Rattle.check_measure.proofs.measure.radius_factor.Goals as goal

pub int_to_float-result : goal.int_to_float-result
unfolding radius_factor in_float
int_to_float-result c =
    le→leb (c.args.rows + 16) (2 ^ 53) (omega arith)

pub returns : goal.returns
unfolding radius_factor in_float
returns c =
    search rules
