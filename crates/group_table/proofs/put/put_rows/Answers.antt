-- `group_table::put::put_rows` meets its contract: the rows below i are put back. Assumes nothing.
use native.Mathlib.Omega.{arith}
use Rattle.std.proofs.Common.{rules}
use Rattle.group_table.proofs.Picks.{picks, room_put, row_fits}
use Rattle.group_table.proofs.put.put_rows.Goals as goal

pub loop-i-init : goal.loop-i-init
loop-i-init g c = search picks

pub put_row-k-requires : goal.put_row-k-requires
put_row-k-requires g c κs within =
    let fits = row_fits c.args.width c.loop-i.i c.args.rows _ (omega arith) c.requires.1.2 in
    let room = room_put c.loop-i.invariant (omega arith) c.requires.1.1 in
    search rules

pub returns : goal.returns
returns g c = search picks
