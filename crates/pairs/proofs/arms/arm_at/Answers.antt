-- `pairs::arms::arm_at` meets its contract. Assumes nothing.
use Rattle.pairs.specs.Gather.{arm_at}
use Rattle.pairs.proofs.arms.arm_at.Goals as goal

pub returns : goal.returns
unfolding arm_at
returns c =
    rw (c.mul_vector.ensures, c.mass_at-mass.ensures, c.wide.ensures)
