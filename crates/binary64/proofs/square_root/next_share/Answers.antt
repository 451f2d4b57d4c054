-- `binary64::next_share` meets its contract. Assumes nothing.
use Rattle.binary64.proofs.square_root.Two.{share_none, share_one, share_two, share_three}
use Rattle.binary64.proofs.square_root.next_share.Goals as goal
use Rattle.binary64.proofs.square_root.next_share.Goals.{then-root-rest, else-root-rest, then-root-rest-2, else-root-rest-2}

pub returns-then-root-rest-3 : goal.returns-then-root-rest-3
returns-then-root-rest-3 c =
    elim c.if-root-rest-2.branch [
      | then-root-rest-2 w ↦ share_three _ _ _ w.if-root-rest-2.true w.high-is
      | else-root-rest-2 w ↦ share_two _ _ _ c.if-root-rest-3.true w.if-root-rest-2.false w.high-is
    ]

pub returns-else-root-rest-3 : goal.returns-else-root-rest-3
returns-else-root-rest-3 c =
    elim c.if-root-rest.branch [
      | then-root-rest w ↦ share_one _ _ _ c.if-root-rest-3.false w.if-root-rest.true w.low-is
      | else-root-rest w ↦ share_none _ _ _ c.if-root-rest-3.false w.if-root-rest.false w.low-is
    ]
