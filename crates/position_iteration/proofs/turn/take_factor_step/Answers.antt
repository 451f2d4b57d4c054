-- `position_iteration::turn::take_factor_step` meets its contract. Assumes nothing.
use Rattle.std.proofs.lemmas.Result.{err_from_is_err_and}
use borrow.Author.Rules.{rules}
use Rattle.recurrence.proofs.Residual.{sixteen_alone}
use Rattle.position_iteration.proofs.Turning.{renew_same, step_refused, step_overflow, step_met, step_on, step_out}
use Rattle.position_iteration.proofs.turn.take_factor_step.Goals as goal

pub returns-in_err-advance : goal.returns-in_err-advance
returns-in_err-advance c =
    let p = err_from_is_err_and c.from_residual.result c.from_residual.ensures.1 in
    rw (p.1, p.2) (step_refused _ _ _ _ _ _ _ _ _ _ _ c.in_err-advance.ensures.alpha_value)

pub returns-then-not-all_finite : goal.returns-then-not-all_finite
returns-then-not-all_finite c =
    step_overflow _ _ _ _ _ _ _ _ _ c.in_ok-advance.ensures.alpha_value _ _ c.all_finite.ensures (search rules)

pub returns-then-position_vector_converged : goal.returns-then-position_vector_converged
returns-then-position_vector_converged c =
    step_met _ _ _ _ _ _ _ _ _ c.in_ok-advance.ensures.alpha_value _ c.position_vector_converged.ensures (search rules) _ _ c.all_finite.ensures (search rules) c.if-position_vector_converged.true

pub returns : goal.returns
returns c =
    step_on _ _ _ _ _ _ _ _ _ c.in_ok-advance.ensures.alpha_value _ c.position_vector_converged.ensures (search rules) c.if-position_vector_converged.false (sixteen_alone _) _ _ (renew_same _ (record { diagonal = c.args.diagonal.now; pattern = c.args.pattern.now; order = c.args.order.now; values = c.args.values.now }) _ _ _ _ (search rules) c.renew.ensures.residual_product_value) _ c.in_ok-s.was

pub returns-in_err-s : goal.returns-in_err-s
returns-in_err-s c =
    let p = err_from_is_err_and c.from_residual-in_err-s.result c.from_residual-in_err-s.ensures.1 in
    rw (p.1, p.2) (step_out _ _ _ _ _ _ _ _ _ c.in_ok-advance.ensures.alpha_value _ c.position_vector_converged.ensures (search rules) c.if-position_vector_converged.false (sixteen_alone _) _ _ (renew_same _ (record { diagonal = c.args.diagonal.now; pattern = c.args.pattern.now; order = c.args.order.now; values = c.args.values.now }) _ _ _ _ (search rules) c.renew.ensures.residual_product_value) _ c.in_err-s.was)
