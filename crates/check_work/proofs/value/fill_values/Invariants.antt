-- `check_work::value::fill_values` meets its contract: the rows below i have their values. Assumes nothing.
use lib.Ieee.{nan}
use lib.ListN.{length}
use Rattle.loops.proofs.Fill.{Fills}
use Rattle.mass_operator.specs.Lent.{value_in}
use Rattle.check_work.specs.Rows.{rows_in, row_sizes_in}
use Rattle.check_work.proofs.value.fill_values.Given as goal

abbrev pub invariant-loop-i : goal.invariant-loop-i
invariant-loop-i l =
    Fills nan (λ k. value_in (rows_in l.numbers l.words k) l.responses) (length l.initial.values) l.i l.values
    × Fills nan (λ k. value_in (row_sizes_in l.numbers l.words k) l.size_responses) (length l.initial.values) l.i l.sizes
