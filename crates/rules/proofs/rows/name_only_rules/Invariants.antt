-- `rules::rows::name_only_rules` meets its contract: the rows below i have the number of their rule. Assumes nothing.
use lib.ListN.{length}
use Rattle.loops.proofs.Fill.{Fills}
use Rattle.rules.specs.Rows.{rules_in, rule_in}
use Rattle.rules.proofs.rows.name_only_rules.Given as goal

abbrev pub invariant-loop-i : goal.invariant-loop-i
invariant-loop-i l =
    Fills 0 (rule_in (rules_in l.rule_words l.rule_tolerances) l.row_words) (length l.initial.rule_numbers) l.i l.rule_numbers
