-- `inertia::substitution::backward` meets its contract: the code is the definition. Assumes nothing.
use mathlib.Core.Path.{refl}
use Rattle.inertia.specs.Solve.{backward_of, backward_x, backward_y, backward_z, less_product}
use Rattle.inertia.proofs.substitution.backward.Goals as goal

pub returns : goal.returns
unfolding backward_of backward_x backward_y backward_z less_product
returns c =
    refl
