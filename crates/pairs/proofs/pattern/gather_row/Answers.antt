-- `pairs::pattern::gather_row` meets its contract: the columns below j are tried. Assumes nothing.
use mathlib.Core.Path.{refl}
use native.Mathlib.Omega.{arith}
use borrow.Author.Rules.{rules}
use Rattle.pairs.proofs.Parts.{bodies_of, eight_within, row_done, row_eight, row_full, row_more, row_begin}
use Rattle.pairs.proofs.pattern.gather_row.Goals as goal

pub loop-j-init : goal.loop-j-init
loop-j-init c =
    (omega arith, refl, bodies_of _ _ _ c.wide-at.ensures, row_begin _ _ _ _ _ (omega arith) c.requires.begin)

pub overflow_add-j : goal.overflow_add-j
overflow_add-j c =
    omega (arith, eight_within _ _ _ _ _ _ c.eight_apart.ensures c.if-eight_apart.true)

pub loop-j-smaller-then-eight_apart : goal.loop-j-smaller-then-eight_apart
loop-j-smaller-then-eight_apart c =
    omega (arith, eight_within _ _ _ _ _ _ c.eight_apart.ensures c.if-eight_apart.true)

pub loop-j-preserved-then-eight_apart : goal.loop-j-preserved-then-eight_apart
loop-j-preserved-then-eight_apart c =
    (eight_within _ _ _ _ _ _ c.eight_apart.ensures c.if-eight_apart.true, c.loop-j.invariant.1, c.loop-j.invariant.2, row_eight _ _ _ _ _ _ c.eight_apart.ensures c.if-eight_apart.true _ _ _ _ c.loop-j.invariant.2 c.loop-j.invariant.3)

pub returns-in_err-p : goal.returns-in_err-p
returns-in_err-p c =
    row_full _ _ _ _ _ _ _ _ _ _ _ c.loop-j.invariant.3 c.loop-j.invariant.2 c.try_column.ensures.value _ (omega arith) c.in_err-p.was _ (search rules)

pub loop-j-preserved : goal.loop-j-preserved
loop-j-preserved c =
    (omega arith, omega arith, c.loop-j.invariant.2, row_more _ _ _ _ _ _ _ _ _ _ _ c.loop-j.invariant.3 c.loop-j.invariant.2 c.try_column.ensures.value _ _ (omega arith) c.try_column.ensures.columns_after c.in_ok-p.was)

pub returns : goal.returns
returns c =
    row_done _ _ _ _ _ _ _ _ c.loop-j.invariant.3 (omega arith) (omega arith)
