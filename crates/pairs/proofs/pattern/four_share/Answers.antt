-- `pairs::pattern::four_share` meets its contract. Assumes nothing.
use native.Mathlib.Nat.{add-zero}
use Rattle.pairs.specs.Gather.{any_share}
use Rattle.pairs.proofs.pattern.four_share.Goals as goal

pub returns : goal.returns
unfolding any_share
returns c =
    rw (c.shares.ensures, c.shares-2.ensures, c.shares-3.ensures, c.shares-4.ensures, add-zero)
