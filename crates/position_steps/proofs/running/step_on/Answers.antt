-- `position_steps::running::step_on` meets its contract. Assumes nothing.
use mathlib.Core.Path.{sym, ◌∙◌}
use Rattle.std.proofs.lemmas.Result.{err_from_is_err_and}
use Rattle.position_iteration.proofs.Fits.{ready_fits}
use Rattle.position_steps.proofs.Stepping.{first_same, stepping_on, stepping_refused}
use Rattle.position_steps.proofs.running.step_on.Goals as goal

pub first-requires : goal.first-requires
first-requires c =
    record { ready = ready_fits _ _ _ _ c.requires.body_impulses_len.3 c.requires.standing.ready; preconditioned_len = (c.requires.body_impulses_len.1 ∙ sym c.requires.body_impulses_len.3, c.requires.body_impulses_len.4 ∙ sym c.requires.body_impulses_len.3) }

pub iterate-requires : goal.iterate-requires
iterate-requires c =
    record { standing = c.requires.standing; body_impulses_len = (c.requires.body_impulses_len.0, c.product-1.given ∙ c.requires.body_impulses_len.1, c.requires.body_impulses_len.2, c.requires.body_impulses_len.3, c.direction-1.given ∙ c.requires.body_impulses_len.4) }

pub returns : goal.returns
returns c =
    stepping_on _ _ _ _ _ _ _ _ (first_same _ (record { diagonal = c.args.diagonal.now; pattern = c.args.pattern.now; order = c.args.order.now; values = c.args.values.now }) _ _ _ c.requires.body_impulses_len.3 c.first.ensures.residual_value) _ c.in_ok-s.was c.iterate.ensures.limit_value

pub returns-in_err-s : goal.returns-in_err-s
returns-in_err-s c =
    let p = err_from_is_err_and c.from_residual.result c.from_residual.ensures.1 in
    rw (p.1, p.2) (stepping_refused _ _ _ _ _ _ _ _ (first_same _ (record { diagonal = c.args.diagonal.now; pattern = c.args.pattern.now; order = c.args.order.now; values = c.args.values.now }) _ _ _ c.requires.body_impulses_len.3 c.first.ensures.residual_value) _ c.in_err-s.was)
