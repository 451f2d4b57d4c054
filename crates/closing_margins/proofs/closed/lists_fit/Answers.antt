-- `closing_margins::closed::lists_fit` meets its contract. Assumes nothing.
use mathlib.Core.Path.{refl}
use Rattle.closing_margins.specs.Held.{margins_lent}
use Rattle.closing_margins.proofs.closed.lists_fit.Goals as goal

pub returns : goal.returns
unfolding margins_lent
returns c =
    refl
