-- `position_steps::beginning::start` meets its contract. Assumes nothing.
use mathlib.Core.Path.{sym, ap, ◌∙◌}
use borrow.Author.Rules.{rules}
use native.Mathlib.Omega.{arith}
use Rattle.loops.specs.Cleared.{zeros}
use Rattle.rules.specs.Rows.{rules_in}
use Rattle.position_steps.proofs.StepZero.{rows_ruled_lem, unopened, start_refused, start_done}
use Rattle.position_steps.proofs.beginning.start.Goals as goal

pub returns-in_err-opened-clause-start_held : goal.returns-in_err-opened-clause-start_held
returns-in_err-opened-clause-start_held c = unopened _ _ c.from_residual.ensures.1 _ _ _ _ _ _ _ _ _ c.in_err-opened.was

pub gather_tolerances-requires : goal.gather_tolerances-requires
gather_tolerances-requires c =
    record { tolerances_in_bounds = (omega (arith, c.requires.numbers_len.1, c.requires.jacobians_len.2), c.requires.numbers_len.3); tolerances_value = rows_ruled_lem _ _ _ _ _ c.requires.given_room.1 c.in_ok-opened.was c.requires.jacobians_len.2 }

pub start_residual-requires : goal.start_residual-requires
start_residual-requires c =
    record { residual_in_bounds = omega (arith, c.requires.numbers_len.0, c.requires.jacobians_len.5); given_room = record { long = λ k. c.requires.given_room.0.long k ∙ sym c.requires.jacobians_len.5 } }

pub returns-in_err-begin-clause-start_held : goal.returns-in_err-begin-clause-start_held
returns-in_err-begin-clause-start_held c =
    start_refused c.args.kind _ _ _ _ _ c.args.given.now (rules_in c.args.rule_words.now c.args.rule_tolerances.now) _ c.in_ok-opened.was _ _ c.requires.jacobians_len.2 c.gather_tolerances.ensures _ _ c.requires.jacobians_len.5
    c.start_residual.ensures _ c.is_velocity.ensures _ c.requires.jacobians_len.3 _ _ _ c.begin.ensures.begun_held _ _ _ _ _ c.in_err-begin.was c.from_residual-in_err-begin.ensures.1

pub gather-requires : goal.gather-requires
gather-requires c =
    record { rows_in_bounds = (omega (arith, c.requires.numbers_len, c.requires.jacobians_len, c.requires.given_room, c.diagonal-1.given), omega (arith, c.requires.numbers_len, c.requires.jacobians_len, c.requires.given_room, c.diagonal-1.given)); rows_in_bounds_2 = (omega (arith, c.requires.numbers_len, c.requires.jacobians_len, c.requires.given_room, c.diagonal-1.given), omega (arith, c.requires.numbers_len, c.requires.jacobians_len, c.requires.given_room, c.diagonal-1.given)) }

pub returns-clause-start_held : goal.returns-clause-start_held
returns-clause-start_held c =
    start_done c.args.kind _ _ _ _ _ c.args.given.now (rules_in c.args.rule_words.now c.args.rule_tolerances.now) _ c.in_ok-opened.was _ _ c.requires.jacobians_len.2 c.gather_tolerances.ensures _ _ c.requires.jacobians_len.5
    c.start_residual.ensures _ c.is_velocity.ensures _ c.requires.jacobians_len.3 _ _ _ c.begin.ensures.begun_held c.in_ok-begin.was _ (c.clear.ensures ∙ ap zeros c.requires.jacobians_len.4) c.args.jacobians.now _ c.args.links.now _ _
    c.requires.numbers_len.0 c.requires.numbers_len.1 c.requires.jacobians_len.0 c.requires.jacobians_len.1 (search rules) c.gather.ensures
