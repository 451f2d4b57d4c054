-- `pairs::cross::met` meets its contract. Assumes nothing.
use Rattle.pairs.specs.Gather.{met_of}
use Rattle.pairs.proofs.cross.met.Goals as goal

pub returns : goal.returns
unfolding met_of
returns c =
    rw (c.dot-2.ensures, c.dot.ensures)
