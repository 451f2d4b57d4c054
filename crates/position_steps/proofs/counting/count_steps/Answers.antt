-- `position_steps::counting::count_steps` meets its contract. Assumes nothing.
use mathlib.Core.Path.{◌∙◌}
use native.Mathlib.Omega.{arith}
use Rattle.rules.specs.Rows.{rules_in}
use Rattle.work_memory.proofs.Cleared.{steps_since}
use Rattle.position_steps.proofs.Counted.{start_linked, start_roomy, count_held}
use Rattle.position_steps.proofs.counting.count_steps.Goals as goal

pub start-begun-requires : goal.start-begun-requires
start-begun-requires c =
    record { numbers_len = (c.requires.rows_room.numbers_long, c.requires.rows_room.words_long, omega (arith, c.requires.rows_room.masses_long), c.requires.rule_tolerances_in_bounds); jacobians_len = (c.requires.work_room.table.jacobians_long, c.requires.work_room.table.links_long, c.requires.work_room.steps.tolerances_long, c.requires.work_room.steps.factor.diagonal_long, c.requires.work_room.table.pending_long, c.requires.work_room.table.residual_long); given_room = c.requires.given_room }

pub run_steps-counted-requires : goal.run_steps-counted-requires
run_steps-counted-requires c =
    record { words_len = (c.requires.rows_room.words_long, c.tolerances-1.given ∙ c.requires.work_room.steps.tolerances_long, omega (arith, c.requires.rows_room.masses_long, c.wide.ensures), omega (arith, c.jacobians-1.given, c.requires.work_room.table.jacobians_long), omega (arith, c.links-1.given, c.requires.work_room.table.links_long)); linking = start_linked _ _ _ _ _ _ _ _ _ _ _ c.start-begun.ensures.start_held c.wide.ensures; roomy = start_roomy _ _ _ _ c.requires.work_room.steps.factor c.diagonal-1.given; body_impulses_len = (omega (arith, c.requires.work_room.table.body_impulses_long, c.wide.ensures), c.requires.work_room.steps.product_long, c.pending-1.given ∙ c.requires.work_room.table.pending_long, c.residual-1.given ∙ c.requires.work_room.table.residual_long, c.requires.work_room.steps.direction_long) }

pub returns : goal.returns
returns c =
    record { count_held = count_held c.args.kind _ _ _ _ _ c.args.given.now (rules_in c.args.rule_words.now c.args.rule_tolerances.now) _ _ _ _ _ _ _ _ _ _ c.start-begun.ensures.start_held (c.residual-1.given ∙ c.requires.work_room.table.residual_long) _ c.is_velocity.ensures _ c.wide.ensures _ _ _ c.run_steps-counted.ensures.limit_value _ _ (steps_since _ _ _ _ _ _ _ c.args.tolerances.now c.args.diagonal.now c.args.direction.now c.args.product.now c.args.pattern.now c.args.order.now c.args.values.now _ c.clear_steps.ensures c.tolerances-1.given (c.diagonal-2-1.given ∙ c.diagonal-1.given) c.direction-1.given c.product-1.given c.pattern-1.given c.order-1.given c.values-1.given); count_free = record { jacobians_free = record { long = c.jacobians-1.given }; links_free = record { long = c.links-1.given }; residual_free = record { long = c.residual-2-1.given ∙ c.residual-1.given }; pending_free = record { long = c.pending-2-1.given ∙ c.pending-1.given }; body_impulses_free = record { long = c.body_impulses-1.given } } }
