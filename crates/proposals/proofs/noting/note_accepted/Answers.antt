-- `proposals::noting::note_accepted` meets its contract. Assumes nothing.
use native.Mathlib.Omega.{arith}
use Rattle.proposals.proofs.Noted.{started_left, started_noted, words_left, words_noted}
use mathlib.Core.Path.{ap}
use Rattle.refusals.specs.Told.{told}
use Rattle.proposals.proofs.noting.note_accepted.Goals as goal

pub bounds-proposal-0 : goal.bounds-proposal-0
bounds-proposal-0 c =
    omega (arith, c.requires.four)

pub copy_multipliers-requires : goal.copy_multipliers-requires
copy_multipliers-requires c =
    c.requires.room _ (ap told c.in-Ok.is)

pub returns-in-Ok : goal.returns-in-Ok
returns-in-Ok c =
    record { proposal_after = words_noted _ _ _ _ (ap told c.in-Ok.is) c.requires.four; started_after = started_noted _ _ _ _ _ _ (ap told c.in-Ok.is) c.copy_multipliers.ensures }

pub returns-in-Err : goal.returns-in-Err
returns-in-Err c =
    record { proposal_after = words_left _ _ _ _ (ap told c.in-Err.is); started_after = started_left _ _ _ _ _ (ap told c.in-Err.is) }
