-- `check_work::impulse::sum_impulses` meets its contract: after i turns each body has the impulses of the rows below i. Assumes nothing.
use Rattle.mass_operator.specs.Flat.{coefficients}
use Rattle.mass_operator.specs.Lent.{Summing}
use Rattle.check_work.specs.Rows.{rows_in, row_sizes_in, sizes_in}
use Rattle.check_work.proofs.impulse.sum_impulses.Given as goal

abbrev pub invariant-loop-i : goal.invariant-loop-i
invariant-loop-i l =
    Summing (rows_in l.numbers l.words) (coefficients l.multipliers) l.bodies l.i l.impulses
    × Summing (row_sizes_in l.numbers l.words) (sizes_in l.multipliers) l.bodies l.i l.size_impulses
