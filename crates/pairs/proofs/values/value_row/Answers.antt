-- `pairs::values::value_row` meets its contract: the places below p have their value, and `all` tells whether those are finite. Assumes nothing.
use native.Mathlib.Omega.{arith}
use Rattle.loops.proofs.Loop.{loops}
use Rattle.pairs.proofs.Places.{fine_empty, fine_first, fine_last, fine_more, valued_empty, valued_first, valued_last, valued_more}
use Rattle.pairs.proofs.Crosses.{value_of}
use Rattle.pairs.proofs.values.value_row.Goals as goal

ruleset known = (valued_last, fine_last, loops)

pub returns-then-first-end : goal.returns-then-first-end
returns-then-first-end c =
    record { valued_2 = valued_empty c.row-row.ensures _ _ c.requires.valued c.if-first-end.true; value = fine_empty c.row-row.ensures _ _ c.requires.fine_value c.if-first-end.true }

pub loop-p-init : goal.loop-p-init
loop-p-init c =
    (c.row-row.ensures, valued_first c.row-row.ensures _ _ c.requires.valued, c.arms_at-higher.ensures, fine_first c.row-row.ensures _ _ c.requires.fine_value)

pub value_with-value-requires : goal.value_with-value-requires
value_with-value-requires c =
    let l = c.earlier-j.ensures.upper_bound in let h = c.requires.i_lt_rows.0 in let t = c.requires.rows_in_bounds in (omega (arith, l, h, t.0), omega (arith, l, h, t.1))

pub loop-p-preserved : goal.loop-p-preserved
loop-p-preserved c =
    let inv = c.loop-p.invariant in
    let row = inv.0 in
    let value = value_of _ _ _ _ _ _ _ inv.2 c.value_with-value.ensures in
    (row, valued_more row _ _ _ _ _ _ inv.1 (search known) (search known) (search known) c.earlier-j.ensures.value value c.write.ensures, inv.2, fine_more row _ _ _ _ _ _ inv.3 (search known) (search known) c.is_finite-all.ensures c.write.ensures)
