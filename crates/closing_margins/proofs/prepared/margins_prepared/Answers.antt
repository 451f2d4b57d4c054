-- `closing_margins::prepared::margins_prepared` meets its contract. Assumes nothing.
use mathlib.Core.Path.{refl, sym}
use lib.Seq.{length-take-le}
use Rattle.mass_operator.specs.Flat.{coefficients}
use Rattle.closing_check.specs.Beside.{placed_in}
use Rattle.closing_check.proofs.Entry.{checked_3}
use Rattle.closing_margins.proofs.Entry.{lists_passed, told_3, turned_3}
use Rattle.closing_margins.proofs.prepared.margins_prepared.Goals as goal

pub returns-then-not-lists_fit-rows : goal.returns-then-not-lists_fit-rows
returns-then-not-lists_fit-rows c =
    record { checked = checked_3 c.args.kind _ _ _ (coefficients c.args.beside.now) (placed_in c.args.kind c.args.bodies c.args.beside.now) _ _ (turned_3 c.args.kind c.args.rows c.args.bodies _ _ c.lists_fit.ensures c.if-not-lists_fit-rows.true-raw) refl; told = told_3 _ _ _ _ _ }

pub slice_bounds-gaps-end : goal.slice_bounds-gaps-end
slice_bounds-gaps-end c =
    (lists_passed c.args.rows _ _ c.lists_fit.ensures c.if-not-lists_fit-rows.false-raw).0

pub slice_bounds-margins_with-end : goal.slice_bounds-margins_with-end
slice_bounds-margins_with-end c =
    sym (length-take-le _ _ (lists_passed c.args.rows _ _ c.lists_fit.ensures c.if-not-lists_fit-rows.false-raw).0)

pub margins_with-requires : goal.margins_with-requires
margins_with-requires c =
    ((lists_passed c.args.rows _ _ c.lists_fit.ensures c.if-not-lists_fit-rows.false-raw).0, (lists_passed c.args.rows _ _ c.lists_fit.ensures c.if-not-lists_fit-rows.false-raw).1, length-take-le _ _ (lists_passed c.args.rows _ _ c.lists_fit.ensures c.if-not-lists_fit-rows.false-raw).0)

pub returns : goal.returns
returns c =
    c.margins_with.ensures
