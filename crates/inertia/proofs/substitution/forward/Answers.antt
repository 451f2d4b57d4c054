-- `inertia::substitution::forward` meets its contract: the code is the definition. Assumes nothing.
use mathlib.Core.Path.{refl}
use Rattle.inertia.specs.Solve.{forward_of, forward_x, forward_y, forward_z, less_product}
use Rattle.inertia.proofs.substitution.forward.Goals as goal

pub returns : goal.returns
unfolding forward_of forward_x forward_y forward_z less_product
returns c =
    refl
