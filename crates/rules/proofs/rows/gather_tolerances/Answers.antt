-- `rules::rows::gather_tolerances` meets its contract: each row is under one rule. Assumes nothing.
use native.Mathlib.Omega.{arith}
use Rattle.loops.proofs.Fill.{fills}
use Rattle.loops.proofs.Tabulate.{filled_tabulate}
use Rattle.rules.proofs.EachRow.{row_ruled}
use Rattle.rules.proofs.rows.gather_tolerances.Goals as goal

pub ruled_tolerance-requires-clause-i_in_bounds_2 : goal.ruled_tolerance-requires-clause-i_in_bounds_2
ruled_tolerance-requires-clause-i_in_bounds_2 c = row_ruled _ _ c.requires.tolerances_value (omega arith)

pub loop-i-preserved : goal.loop-i-preserved
loop-i-preserved c = search fills

pub returns : goal.returns
returns c = search (filled_tabulate, fills)
