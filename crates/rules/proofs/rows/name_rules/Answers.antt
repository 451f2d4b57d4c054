-- `rules::rows::name_rules` meets its contract: the rows below i have the number of their rule. Assumes nothing.
use Rattle.loops.proofs.Fill.{fills}
use Rattle.loops.proofs.Tabulate.{filled_tabulate}
use Rattle.rules.proofs.EachRow.{rule_small}
use Rattle.rules.proofs.rows.name_rules.Goals as goal

ruleset known = (rule_small, filled_tabulate, fills)

pub overflow_cast-rule_numbers : goal.overflow_cast-rule_numbers
overflow_cast-rule_numbers c =
    search known

pub returns : goal.returns
returns c =
    search known
