-- `position_iteration::iteration::iterate` meets its contract. Assumes nothing.
use mathlib.Core.Path.{◌∙◌, ap}
use Rattle.std.specs.Prelude.{Ok}
use Rattle.std.proofs.lemmas.Result.{err_from_is_err_and}
use Rattle.loops.proofs.Loop.{at_none}
use Rattle.position_iteration.proofs.Turning.{loop_on, loop_met, loop_refused, loop_spent}
use Rattle.position_iteration.proofs.iteration.iterate.Goals as goal

pub loop-k-init : goal.loop-k-init
loop-k-init c =
    at_none

pub returns-in_err-next-clause-limit_value : goal.returns-in_err-next-clause-limit_value
returns-in_err-next-clause-limit_value c =
    let p = err_from_is_err_and c.from_residual.result c.from_residual.ensures.1 in
    rw (p.1, p.2) (loop_refused _ _ _ _ _ _ _ c.loop-k.invariant c.loop-k-test.true _ _ _ _ c.take_step.ensures _ c.in_err-next.was)

pub returns-in_default-clause-limit_value : goal.returns-in_default-clause-limit_value
returns-in_default-clause-limit_value c =
    loop_met _ _ _ _ _ _ _ c.loop-k.invariant c.loop-k-test.true _ _ _ _ c.take_step.ensures (c.in_ok-next.was ∙ ap Ok c.in_default.is)

pub loop-k-preserved : goal.loop-k-preserved
loop-k-preserved c =
    loop_on _ _ _ _ _ _ _ c.loop-k.invariant c.loop-k-test.true _ _ _ _ c.take_step.ensures _ (c.in_ok-next.was ∙ ap Ok c.in-Some.is)

pub returns-clause-limit_value : goal.returns-clause-limit_value
returns-clause-limit_value c =
    loop_spent _ _ _ _ _ _ _ _ c.loop-k.invariant c.loop-k-test.false
