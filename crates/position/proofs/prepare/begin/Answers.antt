-- `position::prepare::begin` meets its contract: the rows below i are passed and written. Assumes nothing.
use native.Mathlib.Omega.{arith}
use borrow.Author.Rules.{rules}
use Rattle.position.proofs.Started.{started_done, started_more, started_none, started_refused, started_seven}
use Rattle.position.proofs.prepare.begin.Goals as goal

pub returns-then-not-valid_before-clause-begun_held : goal.returns-then-not-valid_before-clause-begun_held
returns-then-not-valid_before-clause-begun_held c = started_seven _ _ _ c.args.residual.now _ _ _ c.valid_before.ensures (search rules)

pub loop-i-init : goal.loop-i-init
loop-i-init c = started_none _ _ _ _ _ _ c.valid_before.ensures (search rules) (search rules) (search rules)

pub returns-in_err-row-clause-begun_held : goal.returns-in_err-row-clause-begun_held
returns-in_err-row-clause-begun_held c = started_refused _ _ _ _ _ _ _ c.loop-i.invariant (omega arith) _ c.prepare_row.ensures _ _ c.in_err-row.was c.from_residual.ensures.1

pub loop-i-preserved : goal.loop-i-preserved
loop-i-preserved c = started_more _ _ _ _ _ _ _ c.loop-i.invariant (omega arith) _ c.prepare_row.ensures _ c.in_ok-row.was

pub returns-clause-begun_held : goal.returns-clause-begun_held
returns-clause-begun_held c = started_done _ _ _ _ _ _ _ c.loop-i.invariant (omega arith)
