-- `position_iteration::turn::take_diagonal_step` meets its contract. Assumes nothing.
use Rattle.std.proofs.lemmas.Result.{err_from_is_err_and}
use borrow.Author.Rules.{rules}
use Rattle.position_iteration.proofs.DiagonalTurns.{diagonal_refused, diagonal_overflow, diagonal_met, diagonal_on, diagonal_out_lem}
use Rattle.position_iteration.proofs.turn.take_diagonal_step.Goals as goal

pub returns-then-not-all_finite : goal.returns-then-not-all_finite
returns-then-not-all_finite c =
    diagonal_overflow _ _ _ _ _ _ _ _ _ _ _ c.advance_diagonal.ensures.diagonal_value _ c.in_ok-next.was _ _ c.all_finite.ensures (search rules)

pub returns-then-position_vector_converged : goal.returns-then-position_vector_converged
returns-then-position_vector_converged c =
    diagonal_met _ _ _ _ _ _ _ _ _ _ _ c.advance_diagonal.ensures.diagonal_value _ c.in_ok-next.was _ c.position_vector_converged.ensures (search rules) _ _ c.all_finite.ensures (search rules) c.if-position_vector_converged.true

pub returns : goal.returns
returns c =
    diagonal_on _ _ _ _ _ _ _ _ _ _ _ c.advance_diagonal.ensures.diagonal_value _ c.in_ok-next.was _ c.position_vector_converged.ensures (search rules) c.if-position_vector_converged.false _ _ c.next_direction.ensures _ c.in_ok-s.was

pub returns-in_err-s : goal.returns-in_err-s
returns-in_err-s c =
    let p = err_from_is_err_and c.from_residual-in_err-s.result c.from_residual-in_err-s.ensures.1 in
    rw (p.1, p.2) (diagonal_out_lem _ _ _ _ _ _ _ _ _ _ _ c.advance_diagonal.ensures.diagonal_value _ c.in_ok-next.was _ c.position_vector_converged.ensures (search rules) c.if-position_vector_converged.false _ _ c.next_direction.ensures _ c.in_err-s.was)

pub returns-in_err-next : goal.returns-in_err-next
returns-in_err-next c =
    let p = err_from_is_err_and c.from_residual.result c.from_residual.ensures.1 in
    rw (p.1, p.2) (diagonal_refused _ _ _ _ _ _ _ _ _ _ _ c.advance_diagonal.ensures.diagonal_value _ _ c.in_err-next.was)
