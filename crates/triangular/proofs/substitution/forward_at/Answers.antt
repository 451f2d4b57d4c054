-- `triangular::substitution::forward_at` meets its contract. Assumes nothing.
use Rattle.loops.proofs.Loop.{loops}
use Rattle.triangular.proofs.Solves.{forward_way, written_on, written_out}
use Rattle.triangular.proofs.substitution.forward_at.Goals as goal

ruleset known = (written_on, written_out, forward_way, loops)

pub returns-then-not-is_finite : goal.returns-then-not-is_finite
returns-then-not-is_finite c =
    search known

pub returns : goal.returns
returns c =
    search known
