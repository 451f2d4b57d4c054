-- `closing_gaps::keep::gaps_fit` meets its contract. Assumes nothing.
use mathlib.Core.Path.{refl}
use Rattle.closing_gaps.specs.Gaps.{gaps_lent}
use Rattle.closing_gaps.proofs.keep.gaps_fit.Goals as goal

pub returns : goal.returns
unfolding gaps_lent
returns c =
    refl
