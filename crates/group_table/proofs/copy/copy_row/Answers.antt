-- `group_table::copy::copy_row` meets its contract: c of the row are copied. Assumes nothing.
use Prim.Native.Nat.{◌+◌}
use mathlib.Core.Path.{◌∙◌}
use native.Mathlib.Omega.{arith}
use Rattle.std.proofs.lemmas.List.{get_or_default}
use Rattle.group_table.proofs.Picks.{copying_more, picks}
use Rattle.group_table.proofs.copy.copy_row.Goals as goal

pub loop-c-init : goal.loop-c-init
loop-c-init g c = search picks

pub loop-c-preserved : goal.loop-c-preserved
loop-c-preserved g c =
    let read = c.index-from-at.is ∙ get_or_default c.args.from.now (c.args.at + c.loop-c.c) _ g.missing (omega (arith, c.requires.1.0, c.loop-c-test.true)) in
    rw read (copying_more c.loop-c.invariant c.loop-c-test.true)

pub returns : goal.returns
returns g c = search picks
