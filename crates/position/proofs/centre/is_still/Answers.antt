-- `position::centre::is_still` meets its contract. Assumes nothing.
use lib.Ieee.{eq}
use Rattle.position.proofs.Moved.{still_is}
use Rattle.position.proofs.centre.is_still.Goals as goal

pub returns : goal.returns
unfolding eq
returns c =
    still_is _
