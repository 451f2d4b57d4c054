-- `rules::rows::name_only_rules` meets its contract: each row is under one rule. Assumes nothing.
use native.Mathlib.Omega.{arith}
use Rattle.loops.proofs.Fill.{fills}
use Rattle.loops.proofs.Tabulate.{filled_tabulate}
use Rattle.rules.proofs.EachRow.{row_ruled}
use Rattle.rules.proofs.rows.name_only_rules.Goals as goal

pub ruled_number-requires-clause-i_in_bounds_2 : goal.ruled_number-requires-clause-i_in_bounds_2
ruled_number-requires-clause-i_in_bounds_2 c = row_ruled _ _ c.requires.rule_numbers_value (omega arith)

pub loop-i-preserved : goal.loop-i-preserved
loop-i-preserved c = search fills

pub returns : goal.returns
returns c = search (filled_tabulate, fills)
