-- `solve_recorded::room` meets its contract, with no list of that length written out. Assumes nothing.
use Rattle.std.proofs.Common.{ℕ, sym}
use lib.ListN.{length-replicate}
use Rattle.solve_recorded.proofs.room.Goals as goal

pub returns : goal.returns
returns c =
    sym (length-replicate {A = ℕ} 3600000 0)
