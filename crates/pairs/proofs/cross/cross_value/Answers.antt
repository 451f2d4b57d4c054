-- `pairs::cross::cross_value` meets its contract. Assumes nothing.
use Rattle.kapitsa_joint.specs.Mass.{cross_of}
use Rattle.pairs.proofs.cross.cross_value.Goals as goal

pub returns : goal.returns
unfolding cross_of
returns c =
    rw (c.dot.ensures, c.dot-2.ensures, c.mul_vector-response.ensures)
