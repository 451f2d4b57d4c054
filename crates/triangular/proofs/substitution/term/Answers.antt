-- `triangular::substitution::term` meets its contract. Assumes nothing.
use Rattle.triangular.proofs.substitution.term.Goals as goal

pub returns : goal.returns
returns c =
    rw c.number.ensures
