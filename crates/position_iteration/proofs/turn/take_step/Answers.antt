-- `position_iteration::turn::take_step` meets its contract. Assumes nothing.
use mathlib.Core.Path.{sym, ◌∙◌}
use Rattle.std.proofs.lemmas.Result.{err_from_is_err_and}
use borrow.Author.Rules.{rules}
use Rattle.position_iteration.proofs.Turning.{turn_refused, turn_along}
use Rattle.position_iteration.proofs.DiagonalTurns.{diagonal_turn}
use Rattle.position_iteration.proofs.turn.take_step.Goals as goal

pub returns-in-Diagonal : goal.returns-in-Diagonal
returns-in-Diagonal c =
    turn_along _ _ _ _ _ _ _ _ _ _ c.requires.body_impulses_len.4 _ c.step_length.ensures.residual_product_value _ _ _ c.in_ok-alpha.was c.step_length.ensures.product_left _ _ _ _ (diagonal_turn _ _ c.args.tolerances.now (record { diagonal = c.args.diagonal.now; pattern = c.args.pattern.now; order = c.args.order.now; values = c.args.values.now }) _ _ _ _ _ _ _ c.in-Diagonal.is c.take_diagonal_step.ensures)

pub returns : goal.returns
returns c =
    turn_along _ _ _ _ _ _ _ _ _ _ c.requires.body_impulses_len.4 _ c.step_length.ensures.residual_product_value _ _ _ c.in_ok-alpha.was c.step_length.ensures.product_left _ _ _ _ c.take_factor_step.ensures

pub returns-in_err-alpha : goal.returns-in_err-alpha
returns-in_err-alpha c =
    let p = err_from_is_err_and c.from_residual.result c.from_residual.ensures.1 in
    rw (p.1, p.2) (turn_refused _ _ _ _ _ _ _ _ _ _ c.requires.body_impulses_len.4 _ c.step_length.ensures.residual_product_value _ _ _ _ c.in_err-alpha.was)
