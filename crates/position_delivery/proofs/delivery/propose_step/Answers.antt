-- `position_delivery::delivery::propose_step` meets its contract. Assumes nothing.
use mathlib.Core.Path.{ap, ◌∙◌}
use native.Mathlib.Omega.{arith}
use borrow.Author.Tests.{not-false, not-true}
use Rattle.loops.specs.Cleared.{zeros}
use Rattle.position_delivery.proofs.Deliveries.{proposed_none, proposed_refused, proposed_all}
use Rattle.position_delivery.proofs.delivery.propose_step.Goals as goal

pub returns-then-count-eq0 : goal.returns-then-count-eq0
returns-then-count-eq0 c =
    proposed_none _ _ _ _ _ _ _ _ _ _ c.requires.rows_in_bounds.3 _ c.accept.ensures _ _ _ _ _ _ _ _ c.if-count-eq0.true c.requires.place_bound.2 c.copy.ensures (c.clear.ensures ∙ ap zeros c.requires.numbers_len.4) c.copy-then-count-eq0.ensures

pub show-requires : goal.show-requires
show-requires c =
    record { pending_in_bounds = (omega (arith, c.requires.numbers_len, c.requires.place_bound, c.requires.rows_in_bounds, c.requires.stands, c.wide.ensures), omega (arith, c.requires.numbers_len, c.requires.place_bound, c.requires.rows_in_bounds, c.requires.stands, c.wide.ensures), omega (arith, c.requires.numbers_len, c.requires.place_bound, c.requires.rows_in_bounds, c.requires.stands, c.wide.ensures), omega (arith, c.requires.numbers_len, c.requires.place_bound, c.requires.rows_in_bounds, c.requires.stands, c.wide.ensures), omega (arith, c.requires.numbers_len, c.requires.place_bound, c.requires.rows_in_bounds, c.requires.stands, c.wide.ensures), omega (arith, c.requires.numbers_len, c.requires.place_bound, c.requires.rows_in_bounds, c.requires.stands, c.wide.ensures)); place_bound = (c.requires.place_bound.0, omega (arith, c.requires.place_bound, c.wide.ensures, c.wide-2.ensures), omega (arith, c.requires.numbers_len, c.requires.place_bound, c.requires.rows_in_bounds, c.requires.stands, c.wide.ensures), omega (arith, c.requires.place_bound, c.wide.ensures, c.wide-2.ensures), omega (arith, c.requires.place_bound, c.wide.ensures, c.wide-2.ensures)); linked = rw (c.requires.rows_in_bounds.2, c.wide.ensures) c.requires.stands.linked }

pub returns-then-not-show : goal.returns-then-not-show
returns-then-not-show c =
    proposed_refused _ _ _ _ _ _ _ _ _ _ _ _ _ _ _ _ _ _ _ _ _ _ _ c.requires.rows_in_bounds.2 c.wide.ensures c.wide-2.ensures c.requires.place_bound.1 c.requires.stands.system c.show.ensures c.requires.rows_in_bounds.2 _ c.if-count-eq0.false (not-true _ c.if-not-show.true-raw)

pub accept-requires-2 : goal.accept-requires-2
accept-requires-2 c =
    omega (arith, c.requires.numbers_len.1, c.requires.rows_in_bounds.3)

pub returns : goal.returns
returns c =
    proposed_all _ _ _ _ _ _ _ _ _ _ _ _ _ _ _ _ _ _ _ _ _ _ _ c.requires.rows_in_bounds.2 c.wide.ensures c.wide-2.ensures c.requires.place_bound.1 c.requires.stands.system c.show.ensures c.requires.rows_in_bounds.2 _ _ c.if-count-eq0.false (not-false _ c.if-not-show.false-raw) c.requires.rows_in_bounds.3 c.accept-2.ensures
