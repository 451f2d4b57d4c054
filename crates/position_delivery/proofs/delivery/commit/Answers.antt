-- `position_delivery::delivery::commit` meets its contract. Assumes nothing.
use mathlib.Core.Path.{ap}
use Rattle.refusals.specs.Told.{told}
use Rattle.position_delivery.proofs.Counted.{commit_gains, commit_refused}
use Rattle.position_delivery.proofs.delivery.commit.Goals as goal

pub gain_after-requires : goal.gain_after-requires
gain_after-requires c =
    (c.requires.within, c.requires.room _ (ap told c.in-Ok.is))

pub returns-in-Ok : goal.returns-in-Ok
returns-in-Ok c =
    commit_gains _ _ _ _ _ _ (ap told c.in-Ok.is) c.gain_after.ensures

pub returns-in-Err : goal.returns-in-Err
returns-in-Err c =
    commit_refused _ _ _ _ _ (ap told c.in-Err.is)
