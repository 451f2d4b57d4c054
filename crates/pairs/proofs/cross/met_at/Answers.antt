-- `pairs::cross::met_at` meets its contract. Assumes nothing.
use Rattle.pairs.proofs.Crosses.{met_a, met_b, met_none}
use Rattle.pairs.proofs.cross.met_at.Goals as goal

pub returns-then-a-body : goal.returns-then-a-body
returns-then-a-body c =
    met_a _ _ _ _ _ c.if-a-body.true c.met.ensures

pub returns-then-b-body : goal.returns-then-b-body
returns-then-b-body c =
    met_b _ _ _ _ _ c.if-a-body.false c.if-b-body.true c.met-then-b-body.ensures

pub returns : goal.returns
returns c =
    met_none _ _ _ _ c.if-a-body.false c.if-b-body.false
