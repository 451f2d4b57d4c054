-- `rules::rows::gather_tolerances` meets its contract: the rows below i have their tolerance. Assumes nothing.
use lib.ListN.{length}
use lib.Ieee.{nan}
use Rattle.loops.proofs.Fill.{Fills}
use Rattle.rules.specs.Rows.{rules_in, tolerance_in}
use Rattle.rules.proofs.rows.gather_tolerances.Given as goal

abbrev pub invariant-loop-i : goal.invariant-loop-i
invariant-loop-i l =
    Fills nan (tolerance_in (rules_in l.rule_words l.rule_tolerances) l.row_words) (length l.initial.tolerances) l.i l.tolerances
