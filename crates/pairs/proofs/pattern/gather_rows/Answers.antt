-- `pairs::pattern::gather_rows` meets its contract: the rows below i are gathered. Assumes nothing.
use native.Mathlib.Omega.{arith}
use Rattle.loops.proofs.Loop.{loops}
use Rattle.pairs.proofs.Firsts.{firsts_none}
use Rattle.pairs.proofs.Parted.{columns_lent_long, columns_long}
use Rattle.pairs.proofs.Parts.{rows_end, rows_full, rows_more, rows_none, rows_within}
use Rattle.pairs.proofs.pattern.gather_rows.Goals as goal

ruleset known = (firsts_none, rows_none, rows_full, rows_end, columns_long, loops)

pub loop-i-init : goal.loop-i-init
loop-i-init c =
    search known

pub gather_row-requires : goal.gather_row-requires
gather_row-requires c =
    record { i_in_bounds = (omega arith, search (columns_lent_long, loops), search (rows_within, loops)); begin = search loops }

pub returns-in_err-p : goal.returns-in_err-p
returns-in_err-p c =
    let inv = c.loop-i.invariant in
    rows_full _ _ _ _ _ c.wide-ends.ensures _ inv.2 inv.0 _ _ c.gather_row.ensures _ _ (omega arith) c.in_err-p.was _ (search loops)

pub loop-i-preserved : goal.loop-i-preserved
loop-i-preserved c =
    let inv = c.loop-i.invariant in
    (omega arith, search loops, rows_more _ _ _ _ _ c.wide-ends.ensures _ inv.2 inv.0 _ _ c.gather_row.ensures _ _ (omega arith) c.put.ensures c.in_ok-p.was)

pub returns : goal.returns
returns c =
    search known
