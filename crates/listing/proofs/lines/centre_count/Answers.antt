-- `listing::lines::centre_count` meets its contract. Assumes nothing.
use native.Mathlib.Omega.{arith}
use Rattle.listing.proofs.Names.{centre_three, centre_none}
use Rattle.listing.proofs.lines.centre_count.Goals as goal

pub returns-then-spare-eq1 : goal.returns-then-spare-eq1
returns-then-spare-eq1 c =
    centre_three _ (omega arith)

pub returns : goal.returns
returns c =
    centre_none _ (omega arith)
